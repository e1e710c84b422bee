-- The refusals of a policy, a key and an end that are lent together. Assumes nothing.
use Rattle.std.specs.Prelude.{◌≡◌, List, ℕ, length, Option, None}
use Rattle.ternary.specs.Sizes.{key_size}
use Rattle.checks.specs.Refusals.{or_else}
use Rattle.checks.specs.declared.refusal.Refusal.{Refusal}
use Rattle.checks.specs.BufferRefusals.{slots_refusal}
use Rattle.records.specs.SlotBuffers.{WholeSlots}
use Rattle.policy.specs.Refusals.{policy_refusal}
use Rattle.policy.specs.Answers.{best_refusal}

-- policy 1, 2, 3; key 1; table or keeper 4
unfoldable pub lent_refusal : List ℕ → List ℕ → List ℕ → Option Refusal
lent_refusal policy key end = or_else (best_refusal policy key) (slots_refusal end)

-- what they are where none is refused
pub record FineLent (policy key end : List ℕ) : Type 0 where
  pub accepted : policy_refusal policy ≡ None
  pub long : length key ≡ key_size
  pub whole : WholeSlots end
