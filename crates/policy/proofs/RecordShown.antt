-- What the answer on a record says of its number, for its callers. Assumes nothing.
use mathlib.Core.Path.{◌≡◌, refl}
use mathlib.Core.List.{List}
use Rattle.std.specs.Prelude.{None, Some, Ok, Err}
use Prim.Native.Nat.{ℕ, ◌<◌}
use borrow.Author.Tests.{ltb-true}
use Rattle.ternary.specs.Sizes.{key_size}
use Rattle.records.specs.Rules.{rule_count}
use Rattle.checks.specs.declared.refusal.Refusal.{Refusal}
use Rattle.policy.specs.Refusals.{policy_refusal}
use Rattle.policy.specs.RecordAnswers.{record_refusal, record_answer}
use Rattle.checks.proofs.RefusalLaws.{none_first, need-none, verdict-refused, verdict-fine}

module _ (bs : List ℕ) (number : ℕ) where
  pub record-refused : (r : Refusal) → Err r ≡ record_answer bs number → record_refusal bs number ≡ Some r
  unfolding record_answer
  record-refused r e = verdict-refused (record_refusal bs number) e refl

  pub record-shown : (Ok tt) ≡ record_answer bs number → record_refusal bs number ≡ None
  unfolding record_answer
  record-shown e = verdict-fine (record_refusal bs number) e refl

  -- a record that is shown is one of the policy
  pub shown-below : record_refusal bs number ≡ None → number < rule_count key_size bs
  unfolding record_refusal
  shown-below e = ltb-true _ _ (need-none _ _ _ (none_first (policy_refusal bs) _ e).1).0
