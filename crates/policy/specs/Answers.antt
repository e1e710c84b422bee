-- What the policy's calls answer. Assumes nothing.
use Rattle.std.specs.Prelude.{List, ℕ, Option, Result}
use Rattle.ternary.specs.Sizes.{key_size}
use Rattle.records.specs.Rules.{rule_count}
use Rattle.checks.specs.declared.refusal.Refusal.{Refusal}
use Rattle.checks.specs.Refusals.{or_else, answer_of}
use Rattle.checks.specs.Keys.{key_refusal}
use Rattle.policy.specs.Refusals.{policy_refusal}

unfoldable pub check_answer : List ℕ → Result ℕ Refusal
check_answer bs = answer_of (policy_refusal bs) (rule_count key_size bs)

-- policy 1, 2, 3; key 1
unfoldable pub best_refusal : List ℕ → List ℕ → Option Refusal
best_refusal bs key = or_else (policy_refusal bs) (key_refusal key)
