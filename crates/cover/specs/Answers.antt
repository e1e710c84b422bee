-- What the cover list's call answers, and what it leaves in the output. Assumes nothing.
use Rattle.std.specs.Prelude.{◌≡◌, List, ℕ, ltb, length, Option, Result}
use Rattle.model.specs.Policy.{dependents}
use Rattle.checks.specs.declared.refusal.Refusal.TheVariants.{NoSuchRule}
use Rattle.ternary.specs.Sizes.{key_size, positions}
use Rattle.buffers.specs.Parts.{splice}
use Rattle.records.specs.Rules.{rule_count, rules}
use Rattle.checks.specs.Refusals.{or_else, need, unless_refused, answer_of}
use Rattle.checks.specs.declared.refusal.Refusal.{Refusal}
use Rattle.policy.specs.Refusals.{policy_refusal}
use Rattle.lists.specs.Written.{number_bytes}
use Rattle.lists.specs.Answers.{list_refusal}

-- the dependents of the rule of that number, which are its cover list
abbrev pub cover_list : List ℕ → ℕ → List ℕ
cover_list policy number = dependents positions (rules key_size policy) number

-- policy 1, 2, 3; 6; 5, where the output has out_len bytes
unfoldable pub cover_refusal : List ℕ → ℕ → ℕ → Option Refusal
cover_refusal policy number out_len =
    or_else (policy_refusal policy) (need (ltb number (rule_count key_size policy)) NoSuchRule (list_refusal (cover_list policy number) out_len))

-- the answer, and the output after it: the numbers of the cover list at its start, every other byte as it was
pub record Covered (policy : List ℕ) (number : ℕ) (out : List ℕ) (r : Result ℕ Refusal) (out' : List ℕ) : Type 0 where
  pub answer : r ≡ answer_of (cover_refusal policy number (length out)) (length (cover_list policy number))
  pub out-after : out' ≡ unless_refused (cover_refusal policy number (length out)) out (splice 0 (number_bytes (cover_list policy number)) out)
