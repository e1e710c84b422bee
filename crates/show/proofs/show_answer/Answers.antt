-- `show::show_answer` meets its contract: at each `return` the tests that led there say which record it is. Assumes nothing.
use borrow.Author.Rules.{rules}
use mathlib.Core.Path.{refl, sym}
use native.Mathlib.Omega.{arith}
use Rattle.std.proofs.lemmas.Result.{err_from_is_err_and}
use Rattle.checks.proofs.RefusalLaws.{verdict-refused, verdict-fine}
use Rattle.slots.proofs.FindLaws.{held-few}
use Rattle.policy.proofs.CheckLaws.{passed-few}
use Rattle.policy.proofs.LentLaws.{parts-fine}
use Rattle.show.specs.Answers.{show_answer}
use Rattle.show.proofs.AnswerLaws.{says_slot, says-found}
use Rattle.show.proofs.show_answer.Goals as goal

pub returns-in_err-check_lent : goal.returns-in_err-check_lent
unfolding show_answer
returns-in_err-check_lent c =
    let p = err_from_is_err_and c.from_residual.result c.from_residual.ensures.1 in
    rw (p.1, p.2, verdict-refused _ c.in_err-check_lent.ensures refl)

pub first_slot_for-requires : goal.first_slot_for-requires
first_slot_for-requires c = (parts-fine _ _ _ (verdict-fine _ c.in_ok-check_lent.ensures refl)).long

pub overflow_cast-result : goal.overflow_cast-result
overflow_cast-result c =
    let parts = parts-fine _ _ _ (verdict-fine _ c.in_ok-check_lent.ensures refl) in
    omega (arith, held-few _ _ _ (sym c.in-Some.ensures) parts.whole)

pub returns-in-Some : goal.returns-in-Some
returns-in-Some c = says_slot _ _ _ (verdict-fine _ c.in_ok-check_lent.ensures refl) _ (sym c.in-Some.ensures)

pub best_rule-requires : goal.best_rule-requires
best_rule-requires c =
    let parts = parts-fine _ _ _ (verdict-fine _ c.in_ok-check_lent.ensures refl) in
    (passed-few _ parts.accepted, parts.long)

pub returns : goal.returns
returns c =
    says-found _ _ _ (verdict-fine _ c.in_ok-check_lent.ensures refl) (sym c.in_default.ensures) _ _ c.best_rule.ensures (search rules)
