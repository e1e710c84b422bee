-- What a call that writes a list answers, and what it leaves in the output. Assumes nothing.
use Rattle.std.specs.Prelude.{◌≡◌, not, List, ℕ, ◌*◌, ltb, length, Option, None, Result}
use Rattle.checks.specs.declared.refusal.Refusal.TheVariants.{ShortOutput}
use Rattle.buffers.specs.Parts.{splice}
use Rattle.checks.specs.Refusals.{need, unless_refused, answer_of}
use Rattle.checks.specs.declared.refusal.Refusal.{Refusal}
use Rattle.lists.specs.Written.{number_bytes}

-- 5, where the output has out_len bytes
abbrev pub list_refusal : List ℕ → ℕ → Option Refusal
list_refusal xs out_len = need (not (ltb out_len (2 * length xs))) ShortOutput None

-- the answer, and the output after it: the numbers of the list at its start, every other byte as it was
pub record Answered (xs out : List ℕ) (r : Result ℕ Refusal) (out' : List ℕ) : Type 0 where
  pub answer : r ≡ answer_of (list_refusal xs (length out)) (length xs)
  pub out-after : out' ≡ unless_refused (list_refusal xs (length out)) out (splice 0 (number_bytes xs) out)
