-- `miss::on_miss` meets its contract: the miss is decided, and the decision carried out. Assumes nothing.
use Rattle.miss.proofs.OutcomeLaws.{given-told}
use Rattle.miss.proofs.AnswerLaws.{missed-as}
use Rattle.miss.proofs.on_miss.Goals as goal

pub carry_out-requires-clause-told : goal.carry_out-requires-clause-told
carry_out-requires-clause-told c =
    given-told _ _ _ c.decide_miss.ensures

pub returns : goal.returns
returns c =
    missed-as _ _ _ c.carry_out.ensures _ c.decide_miss.ensures
