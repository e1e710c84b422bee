-- What is answered about a rule's record, and what of the policy is shown. Assumes nothing.
use Rattle.std.specs.Prelude.{List, [], ℕ, ltb, Option, None, Result, ⊤}
use Rattle.checks.specs.declared.refusal.Refusal.TheVariants.{NoSuchRule}
use Rattle.ternary.specs.Sizes.{key_size}
use Rattle.buffers.specs.Parts.{chunk}
use Rattle.records.specs.Layout.{rule_size}
use Rattle.records.specs.Rules.{rule_count}
use Rattle.checks.specs.declared.refusal.Refusal.{Refusal}
use Rattle.checks.specs.Refusals.{or_else, need, unless_refused, verdict_of}
use Rattle.policy.specs.Refusals.{policy_refusal}

-- policy 1, 2, 3; then 6
unfoldable pub record_refusal : List ℕ → ℕ → Option Refusal
record_refusal bs number = or_else (policy_refusal bs) (need (ltb number (rule_count key_size bs)) NoSuchRule None)

unfoldable pub record_answer : List ℕ → ℕ → Result ⊤ Refusal
record_answer bs number = verdict_of (record_refusal bs number)

-- the bytes of the record of that number: none on a refusal
unfoldable pub shown_record : List ℕ → ℕ → List ℕ
shown_record bs number = unless_refused (record_refusal bs number) [] (chunk (rule_size key_size) bs number)
