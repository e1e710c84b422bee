-- What the keeper answers to a miss, and what it leaves in its buffer and in the output. Assumes nothing.
use Rattle.std.specs.Prelude.{◌≡◌, List, ℕ, length, Option, Result}
use Rattle.ends.specs.Records.{written}
use Rattle.ends.specs.Ends.{Miss, no_rule, again, new_entry, used_up, miss_keeper, miss_write}
use Rattle.ends.specs.Trace.{miss_outcome}
use Rattle.ternary.specs.Sizes.{key_size}
use Rattle.checks.specs.Refusals.{or_else, unless_refused}
use Rattle.checks.specs.declared.refusal.Refusal.{Refusal}
use Rattle.end_records.specs.Slots.{slots, put_slot}
use Rattle.policy.specs.Lent.{lent_refusal}
use Rattle.miss.specs.Decision.{policy_view}
use Rattle.miss.specs.Decide.{miss_in}
use Rattle.miss.specs.Carry.{miss_answer_of, short_for_write, out_with}
use Rattle.records.specs.declared.outcome.Outcome.{Outcome as OutcomeStruct}

-- ---- refusals

-- policy 1, 2, 3; key 1; keeper 4; 5
unfoldable pub miss_refused : List ℕ → List ℕ → List ℕ → ℕ → Option Refusal
miss_refused policy key keeper out_len =
    or_else (lent_refusal policy key keeper) (short_for_write (miss_write (slots key_size keeper) (miss_in policy key keeper)) out_len)

-- ---- the answer, and the buffers after it

-- the keeper's bytes: those of one slot are replaced where an entry is placed
abbrev pub miss_bytes : List ℕ → Miss → List ℕ
miss_bytes keeper no_rule = keeper
miss_bytes keeper (again i) = keeper
miss_bytes keeper (new_entry i e) = put_slot key_size keeper i (written e)
miss_bytes keeper (used_up r) = keeper

-- of what the miss comes to and the refusal: the answer; the keeper after it, byte by byte; its slots; and the output
pub record MissedAs (policy keeper : List ℕ) (m : Miss) (refused : Option Refusal) (out : List ℕ) (r : Result OutcomeStruct Refusal)
    (keeper' out' : List ℕ) : Type 0 where
  pub answer : r ≡ miss_answer_of refused (miss_outcome (policy_view policy) (slots key_size keeper) m)
  pub keeper-after : keeper' ≡ unless_refused refused keeper (miss_bytes keeper m)
  pub meaning : slots key_size keeper' ≡ unless_refused refused (slots key_size keeper) (miss_keeper (slots key_size keeper) m)
  pub out-after : out' ≡ unless_refused refused out (out_with (miss_write (slots key_size keeper) m) out)

-- the call without its checks
abbrev pub OnMiss : List ℕ → List ℕ → List ℕ → List ℕ → Result OutcomeStruct Refusal → List ℕ → List ℕ → Type 0
OnMiss policy key keeper out r keeper' out' =
    let m = miss_in policy key keeper in
    MissedAs policy keeper m (short_for_write (miss_write (slots key_size keeper) m) (length out)) out r keeper' out'

-- the whole call
abbrev pub Missed : List ℕ → List ℕ → List ℕ → List ℕ → Result OutcomeStruct Refusal → List ℕ → List ℕ → Type 0
Missed policy key keeper out r keeper' out' =
    MissedAs policy keeper (miss_in policy key keeper) (miss_refused policy key keeper (length out)) out r keeper' out'
