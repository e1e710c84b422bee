-- `isolate::check_isolate` meets its contract: at each way out, the tests that led there say which answer it is. Assumes nothing.
use mathlib.Core.Path.{◌≡◌, refl, ◌∙◌}
use Prim.Native.Nat.{ℕ}
use Rattle.std.specs.Prelude.{Option, None, Some, Ok, Err, ok_or}
use native.Mathlib.Omega.{arith}
use Rattle.std.proofs.lemmas.Result.{err_from_is_err_and}
use Rattle.checks.proofs.RefusalLaws.{key-accepted, verdict-refused, verdict-fine}
use Rattle.policy.proofs.CheckLaws.{check-refused, check-passed, check-count, passed-few}
use Rattle.isolate.proofs.AnswerLaws.{said-policy, said-key, said-number, said-none, said-other, said-isolated}
use Rattle.isolate.proofs.check_isolate.Goals as goal

pub returns-in_err-count : goal.returns-in_err-count
returns-in_err-count c =
    let p = err_from_is_err_and c.from_residual.result c.from_residual.ensures.1 in
    rw (p.1, p.2) (said-policy _ _ _ _ (check-refused _ _ c.in_err-count.ensures))

pub returns-in_err-check_key : goal.returns-in_err-check_key
returns-in_err-check_key c =
    let p = err_from_is_err_and c.from_residual-in_err-check_key.result c.from_residual-in_err-check_key.ensures.1 in
    rw (p.1, p.2) (said-key _ _ _ (check-passed _ _ c.in_ok-count.ensures) (verdict-refused _ c.in_err-check_key.ensures refl))

pub returns-then-number-count : goal.returns-then-number-count
returns-then-number-count c =
    said-number _ _ _ (check-passed _ _ c.in_ok-count.ensures) (key-accepted _ (verdict-fine _ c.in_ok-check_key.ensures refl))
    (omega (arith, check-count _ _ c.in_ok-count.ensures, c.if-number-count.true))

pub best_rule-requires : goal.best_rule-requires
best_rule-requires c = (passed-few _ (check-passed _ _ c.in_ok-count.ensures), (key-accepted _ (verdict-fine _ c.in_ok-check_key.ensures refl)))

-- what stands for a best rule that is not there
found : {A E : Type 0} (o : Option A) (e : E) (x : A) → Ok x ≡ ok_or o e → o ≡ Some x
found None e x h = let z : ◌≡◌ {A = ℕ} 0 1 = cc in absurd (omega arith)
found (Some y) e x h = cc

missed : {A E : Type 0} (o : Option A) (e d : E) → Err d ≡ ok_or o e → (o ≡ None) × (d ≡ e)
missed None e d h = (refl, cc)
missed (Some y) e d h = let z : ◌≡◌ {A = ℕ} 0 1 = cc in absurd (omega arith)

pub returns-in_err-best : goal.returns-in_err-best
returns-in_err-best c =
    let p = err_from_is_err_and c.from_residual-in_err-best.result c.from_residual-in_err-best.ensures.1 in
    let none = missed _ _ _ c.in_err-best.ensures.value in
    rw (p.1, p.2, none.1)
    (said-none _ _ _ (check-passed _ _ c.in_ok-count.ensures) (key-accepted _ (verdict-fine _ c.in_ok-check_key.ensures refl))
    (omega (arith, check-count _ _ c.in_ok-count.ensures, c.if-number-count.false)) _ c.best_rule.ensures none.0)

pub returns-then-from-number : goal.returns-then-from-number
returns-then-from-number c =
    said-isolated _ _ _ (check-passed _ _ c.in_ok-count.ensures) (key-accepted _ (verdict-fine _ c.in_ok-check_key.ensures refl))
    (omega (arith, check-count _ _ c.in_ok-count.ensures, c.if-number-count.false)) _ c.best_rule.ensures _
    (found _ _ _ c.in_ok-best.ensures.value) (omega (arith, c.from.ensures, c.if-from-number.true))

pub returns-else-from-number : goal.returns-else-from-number
returns-else-from-number c =
    said-other _ _ _ (check-passed _ _ c.in_ok-count.ensures) (key-accepted _ (verdict-fine _ c.in_ok-check_key.ensures refl))
    (omega (arith, check-count _ _ c.in_ok-count.ensures, c.if-number-count.false)) _ c.best_rule.ensures _
    (found _ _ _ c.in_ok-best.ensures.value) (λ e. c.if-from-number.false (c.from.ensures ∙ e))
