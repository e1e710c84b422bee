-- `miss::miss` meets its contract: a miss whose parts are not refused is decided, and the decision carried out. Assumes nothing.
use Rattle.std.proofs.lemmas.Result.{err_from_is_err_and}
use Rattle.miss.proofs.AnswerLaws.{missed-refused, fine_of, missed}
use Rattle.miss.proofs.miss.Goals as goal

pub returns-in_err-check_lent : goal.returns-in_err-check_lent
returns-in_err-check_lent c =
    let p = err_from_is_err_and c.from_residual.result c.from_residual.ensures.1 in
    rw (p.1, p.2) (missed-refused _ _ _ _ c.check_lent.ensures c.in_err-check_lent.was)

pub on_miss-requires : goal.on_miss-requires
on_miss-requires c =
    fine_of _ _ _ c.check_lent.ensures c.in_ok-check_lent.was

pub returns : goal.returns
returns c =
    missed _ _ _ _ c.check_lent.ensures c.in_ok-check_lent.was c.on_miss.ensures
