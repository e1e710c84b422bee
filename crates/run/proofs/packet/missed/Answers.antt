-- `run::packet::missed` meets its contract: without a write nothing changes, else its entry is placed and it is sent. Assumes nothing.
use Rattle.miss.proofs.OutcomeLaws.{given-told}
use Rattle.run.proofs.MissLaws.{missed-sent}
use Rattle.run.proofs.packet.missed.Goals as goal

pub put_new_entry-requires : goal.put_new_entry-requires
put_new_entry-requires c =
    (c.decide_miss-d.ensures.inside _ c.in-Some.is, given-told _ _ _ c.decide_miss-d.ensures _ c.in-Some.is)

pub returns-in-Some : goal.returns-in-Some
returns-in-Some c =
    missed-sent _ _ _ _ _ c.decide_miss-d.ensures c.in-Some.is c.put_new_entry.ensures c.send_write.ensures
