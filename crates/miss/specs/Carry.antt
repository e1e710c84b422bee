-- A decision on a miss, carried out, in its own values. Assumes nothing.
use Rattle.std.specs.Prelude.{◌≡◌, not, cond, List, ℕ, ltb, length, set, Option, None, Some, Result}
use Rattle.ends.specs.Records.{Slot, Write, Outcome, written, entry_in}
use Rattle.checks.specs.declared.refusal.Refusal.TheVariants.{ShortOutput}
use Rattle.ternary.specs.Sizes.{key_size}
use Rattle.buffers.specs.Parts.{splice}
use Rattle.records.specs.Layout.{write_size}
use Rattle.checks.specs.Refusals.{need, unless_refused, answer_of}
use Rattle.checks.specs.declared.refusal.Refusal.{Refusal}
use Rattle.end_records.specs.Slots.{slots, put_slot}
use Rattle.end_records.specs.Writes.{encode_write}
use Rattle.records.specs.Outcomes.{as_struct, gives_new_entry}
use Rattle.records.specs.declared.outcome.Outcome.{Outcome as OutcomeStruct}
use Rattle.miss.specs.Decision.{given}
use Rattle.miss.specs.declared.decision.Decision.{Decision}

-- the refusal, or the outcome
abbrev pub miss_answer_of : Option Refusal → Outcome → Result OutcomeStruct Refusal
miss_answer_of refused x = answer_of refused (as_struct x)

-- 5, where a write is given and the output has out_len bytes
abbrev pub short_for_write : Option Write → ℕ → Option Refusal
short_for_write None out_len = None
short_for_write (Some w) out_len = need (not (ltb out_len (write_size key_size))) ShortOutput None

-- the output with the write at its start
abbrev pub out_with : Option Write → List ℕ → List ℕ
out_with None out = out
out_with (Some w) out = splice 0 (encode_write w) out

-- the keeper's bytes, and its slots, with the entry of the write in its slot, where one is placed
abbrev pub bytes_with : ℕ → Option Write → List ℕ → List ℕ
bytes_with outcome None keeper = keeper
bytes_with outcome (Some w) keeper = cond (gives_new_entry outcome) (put_slot key_size keeper w.slot (written (entry_in w))) keeper

abbrev pub slots_with : ℕ → Option Write → List Slot → List Slot
slots_with outcome None k = k
slots_with outcome (Some w) k = cond (gives_new_entry outcome) (set k w.slot (written (entry_in w))) k

-- the entry of the write goes into its slot, where one is placed
pub record NewEntryPut (outcome : ℕ) (w : Write) (keeper keeper' : List ℕ) : Type 0 where
  pub keeper-after : keeper' ≡ bytes_with outcome (Some w) keeper
  pub meaning : slots key_size keeper' ≡ slots_with outcome (Some w) (slots key_size keeper)

pub record CarriedOut (d : Decision) (keeper out : List ℕ) (r : Result OutcomeStruct Refusal) (keeper' out' : List ℕ) : Type 0 where
  pub answer : r ≡ answer_of (short_for_write (given d) (length out)) d.outcome
  pub keeper-after : keeper' ≡ unless_refused (short_for_write (given d) (length out)) keeper (bytes_with d.outcome.outcome (given d) keeper)
  pub meaning : slots key_size keeper'
      ≡ unless_refused (short_for_write (given d) (length out)) (slots key_size keeper)
      (slots_with d.outcome.outcome (given d) (slots key_size keeper))
  pub out-after : out' ≡ unless_refused (short_for_write (given d) (length out)) out (out_with (given d) out)
