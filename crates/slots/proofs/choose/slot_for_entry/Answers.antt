-- `slots::choose::slot_for_entry` meets its contract: an empty slot, else the one that is given up. Assumes nothing.
use Rattle.slots.proofs.ChooseLaws.{entry-empty, entry-given-up}
use Rattle.slots.proofs.choose.slot_for_entry.Goals as goal

pub returns-in-Some : goal.returns-in-Some
returns-in-Some c = entry-empty _ c.first_empty.ensures c.in-Some.is

pub returns-in-None : goal.returns-in-None
returns-in-None c = entry-given-up _ c.first_empty.ensures c.in-None.is c.given_up.ensures
