-- What the tests of the parts say, and what parts are that no test refuses. Assumes nothing.
use mathlib.Core.Path.{◌≡◌, sym, ◌∙◌}
use mathlib.Core.List.{List}
use Rattle.std.specs.Prelude.{None, Some, Result, Ok, Err}
use Prim.Native.Nat.{ℕ}
use Rattle.checks.specs.Keys.{key_refusal}
use Rattle.checks.specs.declared.refusal.Refusal.{Refusal}
use Rattle.checks.proofs.RefusalLaws.{none_first, key-accepted}
use Rattle.checks.specs.BufferRefusals.{slots_refusal}
use Rattle.checks.proofs.FitLaws.{slots-accepted}
use Rattle.policy.specs.Refusals.{policy_refusal}
use Rattle.policy.specs.Answers.{check_answer, best_refusal}
use Rattle.policy.proofs.CheckLaws.{check-refused, check-passed}
use Rattle.policy.specs.Lent.{lent_refusal, FineLent}

module _ (policy key end : List ℕ) where
  pub bad-policy : {a : Result ℕ Refusal} {r : Refusal} → a ≡ check_answer policy → a ≡ Err r → lent_refusal policy key end ≡ Some r
  unfolding lent_refusal best_refusal
  bad-policy {a} {r} e t = rw (check-refused policy r (sym t ∙ e))

  module _ {a : Result ℕ Refusal} {n : ℕ} (e : a ≡ check_answer policy) (t : a ≡ Ok n) where
    passed : policy_refusal policy ≡ None
    passed = check-passed policy n (sym t ∙ e)

    pub bad-key : {r : Refusal} → key_refusal key ≡ Some r → lent_refusal policy key end ≡ Some r
    unfolding lent_refusal best_refusal
    bad-key bad = rw (passed, bad)

    -- the end's refusal is then that of the whole
    pub rest-end : key_refusal key ≡ None → lent_refusal policy key end ≡ slots_refusal end
    unfolding lent_refusal best_refusal
    rest-end fine = rw (passed, fine)

  pub parts-fine : lent_refusal policy key end ≡ None → FineLent policy key end
  unfolding lent_refusal best_refusal
  parts-fine e =
      let parts = none_first (best_refusal policy key) (slots_refusal end) e in
      let first = none_first (policy_refusal policy) (key_refusal key) parts.0 in
      record {
        accepted = first.0;
        long = key-accepted key first.1;
        whole = (slots-accepted end).0 parts.1;
      }
