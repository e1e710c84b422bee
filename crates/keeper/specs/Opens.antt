-- What the call for the open list answers, and what it leaves in the output. Assumes nothing.
use Rattle.std.specs.Prelude.{◌≡◌, List, ℕ, length, Option, Result}
use Rattle.ends.specs.Ends.{open_list}
use Rattle.ternary.specs.Sizes.{key_size}
use Rattle.buffers.specs.Parts.{splice}
use Rattle.checks.specs.Refusals.{or_else, unless_refused, answer_of}
use Rattle.checks.specs.declared.refusal.Refusal.{Refusal}
use Rattle.end_records.specs.Slots.{slots}
use Rattle.checks.specs.BufferRefusals.{slots_refusal}
use Rattle.lists.specs.Written.{number_bytes}
use Rattle.lists.specs.Answers.{list_refusal}

-- the open slots of the keeper's buffer
abbrev pub open_in : List ℕ → List ℕ
open_in keeper = open_list (slots key_size keeper)

-- keeper 4; 5, where the output has out_len bytes
unfoldable pub open_refusal : List ℕ → ℕ → Option Refusal
open_refusal keeper out_len = or_else (slots_refusal keeper) (list_refusal (open_in keeper) out_len)

-- the answer, and the output after it: the numbers of the open slots at its start, every other byte as it was
pub record Opened (keeper out : List ℕ) (r : Result ℕ Refusal) (out' : List ℕ) : Type 0 where
  pub answer : r ≡ answer_of (open_refusal keeper (length out)) (length (open_in keeper))
  pub out-after : out' ≡ unless_refused (open_refusal keeper (length out)) out (splice 0 (number_bytes (open_in keeper)) out)
