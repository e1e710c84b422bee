-- What the answer of the check says of the policy, for its callers. Assumes nothing.
use mathlib.Core.Path.{◌≡◌, refl}
use mathlib.Core.List.{List}
use Rattle.std.specs.Prelude.{None, Some, Ok, Err}
use Prim.Native.Nat.{ℕ, ◌≤◌}
use Rattle.ternary.specs.Sizes.{key_size}
use Rattle.records.specs.Layout.{most_rules}
use Rattle.records.specs.Rules.{rule_count}
use Rattle.checks.specs.declared.refusal.Refusal.{Refusal}
use Rattle.policy.specs.Refusals.{policy_refusal}
use Rattle.policy.specs.Answers.{check_answer}
use Rattle.policy.proofs.Acceptance.{refused-not}
use Rattle.checks.proofs.RefusalLaws.{answer-refused, answer-given}

module _ (bs : List ℕ) where
  pub check-refused : (r : Refusal) → Err r ≡ check_answer bs → policy_refusal bs ≡ Some r
  unfolding check_answer
  check-refused r e = answer-refused (policy_refusal bs) (rule_count key_size bs) e refl

  pub check-passed : (m : ℕ) → Ok m ≡ check_answer bs → policy_refusal bs ≡ None
  unfolding check_answer
  check-passed m e = (answer-given (policy_refusal bs) (rule_count key_size bs) e refl).0

  pub check-count : (m : ℕ) → Ok m ≡ check_answer bs → m ≡ rule_count key_size bs
  unfolding check_answer
  check-count m e = (answer-given (policy_refusal bs) (rule_count key_size bs) e refl).1

  -- a policy that is not refused has few rules
  pub passed-few : policy_refusal bs ≡ None → rule_count key_size bs ≤ most_rules
  passed-few e = (refused-not bs e).few
