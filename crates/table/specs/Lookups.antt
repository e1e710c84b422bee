-- The table looks a key up: the answer, the table's bytes after it, and the output's. Assumes nothing.
use Rattle.std.specs.Prelude.{◌≡◌, List, ℕ, ◌≤◌, leb, length, Option, None, Some, Result, option_map}
use Rattle.ends.specs.Records.{Slot, slot_at}
use Rattle.checks.specs.declared.refusal.Refusal.TheVariants.{ShortOutput}
use Rattle.ends.specs.Ends.{Hit as ModelHit, counted, first_for, lookup, after_lookup}
use Rattle.table.specs.declared.Hit.{Hit}
use Rattle.ternary.specs.Sizes.{key_size, positions}
use Rattle.buffers.specs.Parts.{splice}
use Rattle.records.specs.Layout.{report_size}
use Rattle.checks.specs.Refusals.{or_else, need, unless_refused, answer_of}
use Rattle.checks.specs.declared.refusal.Refusal.{Refusal}
use Rattle.checks.specs.Keys.{key_refusal}
use Rattle.end_records.specs.Slots.{slots, put_slot}
use Rattle.checks.specs.BufferRefusals.{slots_refusal}
use Rattle.records.specs.SlotBuffers.{WholeSlots}
use Rattle.end_records.specs.Reports.{encode_report}

-- 5: an output of out_len bytes is shorter than a report
abbrev pub short_for_report : ℕ → Option Refusal
short_for_report out_len = need (leb report_size out_len) ShortOutput None

-- only a hit has an answer to write
abbrev pub hit_refusal : {A : Type 0} → Option A → ℕ → Option Refusal
hit_refusal None out_len = None
hit_refusal (Some h) out_len = short_for_report out_len

-- key 1; table 4; then 5
unfoldable pub lookup_refusal : List ℕ → List ℕ → ℕ → Option Refusal
lookup_refusal key table out_len =
    or_else (key_refusal key) (or_else (slots_refusal table) (hit_refusal (first_for positions (slots key_size table) key) out_len))

-- what a lookup is that is not refused
pub record GoodLookup (key table : List ℕ) (out_len : ℕ) : Type 0 where
  pub long : length key ≡ key_size
  pub whole : WholeSlots table
  pub fits : (i : ℕ) → first_for positions (slots key_size table) key ≡ Some i → report_size ≤ out_len

-- ---- the slot that is found

unfoldable pub find_answer : List ℕ → List ℕ → ℕ → Result (Option ℕ) Refusal
find_answer key table out_len = answer_of (lookup_refusal key table out_len) (first_for positions (slots key_size table) key)

-- ---- the call

-- what a hit tells
abbrev pub hit_told : ModelHit → Hit
hit_told h = record { slot = h.slot; rule = h.rule; action = h.action }

-- the refusal, or what the table answers
unfoldable pub lookup_answer : List ℕ → List ℕ → ℕ → Result (Option Hit) Refusal
lookup_answer key table out_len =
    answer_of (lookup_refusal key table out_len) (option_map hit_told (lookup positions (slots key_size table) key))

-- the slots after it: a hit is counted; a miss and a refusal change none
unfoldable pub slots_after_lookup : List ℕ → List ℕ → ℕ → List Slot
slots_after_lookup key table out_len =
    unless_refused (lookup_refusal key table out_len) (slots key_size table) (after_lookup positions (slots key_size table) key)

-- and the table's bytes: on a hit those of that slot are replaced, and no other
abbrev pub counted_bytes : List ℕ → Option ℕ → List ℕ
counted_bytes table None = table
counted_bytes table (Some i) = put_slot key_size table i (counted (slot_at (slots key_size table) i))

unfoldable pub table_after_lookup : List ℕ → List ℕ → ℕ → List ℕ
table_after_lookup key table out_len =
    unless_refused (lookup_refusal key table out_len) table (counted_bytes table (first_for positions (slots key_size table) key))

-- the report of a hit at the start of the output; its other bytes stay
abbrev pub told_of : Option ModelHit → List ℕ → List ℕ
told_of None out = out
told_of (Some h) out = splice 0 (encode_report h.report) out

unfoldable pub out_after_lookup : List ℕ → List ℕ → List ℕ → List ℕ
out_after_lookup key table out =
    unless_refused (lookup_refusal key table (length out)) out (told_of (lookup positions (slots key_size table) key) out)

-- what a lookup is: its answer r, and the buffers after it
pub record LookedUp (key table out : List ℕ) (r : Result (Option Hit) Refusal) (table' out' : List ℕ) : Type 0 where
  pub answer : r ≡ lookup_answer key table (length out)
  pub table-after : table' ≡ table_after_lookup key table (length out)
  pub meaning : slots key_size table' ≡ slots_after_lookup key table (length out)
  pub out-after : out' ≡ out_after_lookup key table out
