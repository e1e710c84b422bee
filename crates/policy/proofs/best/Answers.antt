-- `policy::best` meets its contract: at each `return` the tests that led there say which answer it is. Assumes nothing.
use mathlib.Core.Path.{refl}
use Rattle.std.proofs.lemmas.Result.{err_from_is_err_and}
use Rattle.checks.proofs.RefusalLaws.{key-accepted, verdict-refused, verdict-fine}
use Rattle.policy.specs.Answers.{best_refusal}
use Rattle.policy.proofs.CheckLaws.{check-refused, check-passed, passed-few}
use Rattle.policy.specs.BestAnswers.{best_answer}
use Rattle.policy.proofs.best.Goals as goal

pub returns-in_err-check : goal.returns-in_err-check
unfolding best_answer best_refusal
returns-in_err-check c =
    let p = err_from_is_err_and c.from_residual.result c.from_residual.ensures.1 in rw (p.1, p.2, check-refused _ _ c.in_err-check.ensures)

pub returns-in_err-check_key : goal.returns-in_err-check_key
unfolding best_answer best_refusal
returns-in_err-check_key c =
    let p = err_from_is_err_and c.from_residual-in_err-check_key.result c.from_residual-in_err-check_key.ensures.1 in
    rw (p.1, p.2, check-passed _ _ c.in_ok-check.ensures, verdict-refused _ c.in_err-check_key.ensures refl)

pub best_rule-requires : goal.best_rule-requires
best_rule-requires c =
    (passed-few _ (check-passed _ _ c.in_ok-check.ensures), key-accepted _ (verdict-fine _ c.in_ok-check_key.ensures refl))

pub returns : goal.returns
unfolding best_answer best_refusal
returns c = rw (check-passed _ _ c.in_ok-check.ensures, verdict-fine _ c.in_ok-check_key.ensures refl, c.best_rule.ensures)
