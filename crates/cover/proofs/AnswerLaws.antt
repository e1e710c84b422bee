-- What the tests of the cover list's call come to: each way out of it. Assumes nothing.
use Prim.Native.Nat.{ℕ, ◌≤◌, ◌<◌}
use mathlib.Core.Path.{◌≡◌, sym, ◌∙◌}
use mathlib.Core.List.{List}
use Rattle.std.specs.Prelude.{None, Some, Result, Ok, Err}
use native.Mathlib.Omega.{arith}
use lib.ListN.{length}
use borrow.Author.Tests.{lt-ltb, le-ltb}
use Rattle.checks.specs.declared.refusal.Refusal.TheVariants.{NoSuchRule}
use Rattle.ternary.specs.Sizes.{key_size}
use Rattle.records.specs.Layout.{most_rules}
use Rattle.records.specs.Rules.{rule_count}
use Rattle.checks.specs.declared.refusal.Refusal.{Refusal}
use Rattle.policy.specs.Refusals.{policy_refusal}
use Rattle.policy.specs.Answers.{check_answer}
use Rattle.policy.proofs.CheckLaws.{check-refused, check-passed, check-count, passed-few}
use Rattle.lists.specs.Answers.{list_refusal, Answered}
use Rattle.cover.specs.Answers.{cover_list, cover_refusal, Covered}

-- ---- the policy's check

-- a policy that is not refused has n rules
pub record Taken (policy : List ℕ) (n : ℕ) : Type 0 where
  pub fine : policy_refusal policy ≡ None
  pub counted : n ≡ rule_count key_size policy
  pub few : rule_count key_size policy ≤ most_rules

pub taken_of : {policy : List ℕ} {n : ℕ} {r : Result ℕ Refusal} → r ≡ check_answer policy → r ≡ Ok n → Taken policy n
taken_of {policy} {n} e t =
    let passed = check-passed policy n (sym t ∙ e) in
    record { fine = passed; counted = check-count policy n (sym t ∙ e); few = passed-few policy passed }

-- ---- each way out

module _ (policy : List ℕ) (number : ℕ) (out : List ℕ) where
  refused_as : {r : Refusal} → cover_refusal policy number (length out) ≡ Some r → Covered policy number out (Err r) out
  refused_as e = record { answer = rw e; out-after = rw e }

  pub refused-policy : {r : Refusal} {a : Result ℕ Refusal} → a ≡ check_answer policy → a ≡ Err r → Covered policy number out (Err r) out
  unfolding cover_refusal
  refused-policy {r} e t = refused_as (rw (check-refused policy r (sym t ∙ e)))

  module _ {n : ℕ} (is : Taken policy n) where
    pub refused-number : n ≤ number → Covered policy number out (Err NoSuchRule) out
    unfolding cover_refusal
    refused-number l = refused_as (rw (is.fine, le-ltb number (rule_count key_size policy) (omega (arith, is.counted))))

    pub covered-list : {xs : List ℕ} {r : Result ℕ Refusal} {out' : List ℕ} → number < n → xs ≡ cover_list policy number
        → Answered xs out r out' → Covered policy number out r out'
    unfolding cover_refusal
    covered-list low list a =
        let t : cover_refusal policy number (length out) ≡ list_refusal (cover_list policy number) (length out) =
        rw (is.fine, lt-ltb number (rule_count key_size policy) (omega (arith, is.counted)))
        in
        let told = rw list at a in record { answer = rw t told.answer; out-after = rw t told.out-after }
