-- `isolate::isolate` meets its contract: where nothing refuses, the rule is the key's best. Assumes nothing.
use Rattle.std.specs.Prelude.{Ok}
use mathlib.Core.Path.{ap}
use Rattle.std.proofs.lemmas.Result.{err_from_is_err_and}
use Rattle.isolate.specs.Answers.{isolated_of, isolate_answer}
use Rattle.isolate.proofs.AnswerLaws.{ready, refused_as, isolated-as}
use Rattle.isolate.proofs.isolate.Goals as goal

pub returns-in_err-check_isolate : goal.returns-in_err-check_isolate
unfolding isolate_answer
returns-in_err-check_isolate c =
    let p = err_from_is_err_and c.from_residual.result c.from_residual.ensures.1 in
    rw (p.1, p.2, refused_as _ _ _ _ c.check_isolate.ensures _ c.in_err-check_isolate.was)

pub isolate_best-requires : goal.isolate_best-requires
isolate_best-requires c = ready _ _ _ _ c.check_isolate.ensures c.in_ok-check_isolate.was

pub returns : goal.returns
unfolding isolate_answer
returns c = rw (isolated-as _ _ _ _ c.check_isolate.ensures c.in_ok-check_isolate.was) (ap (λ x. Ok (isolated_of x)) c.isolate_best.ensures)
