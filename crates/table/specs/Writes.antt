-- The table receives a write: the answer, the table's bytes after it, and the output's. Assumes nothing.
use Rattle.std.specs.Prelude.{◌≡◌, not, List, ℕ, ◌≤◌, ◌<◌, ltb, eqb, length, get_or, Option, None, Result, ⊤, is_some}
use Rattle.ends.specs.Records.{Slot}
use Rattle.checks.specs.declared.refusal.Refusal.TheVariants.{BadRecord, NoSuchSlot, Ragged, SequenceZero, WrongKind}
use Rattle.ends.specs.Ends.{after_write, write_report}
use Rattle.ternary.specs.Sizes.{key_size}
use Rattle.buffers.specs.Parts.{splice}
use Rattle.records.specs.Layout.{write_kind, is_write, write_size, report_size}
use Rattle.checks.specs.Refusals.{or_else, need, unless_refused, verdict_of}
use Rattle.checks.specs.Flaws.{write_flaw}
use Rattle.checks.specs.declared.refusal.Refusal.{Refusal}
use Rattle.end_records.specs.Slots.{slots}
use Rattle.records.specs.SlotBuffers.{slot_count, WholeSlots}
use Rattle.checks.specs.BufferRefusals.{slots_refusal}
use Rattle.end_records.specs.Writes.{decode_write}
use Rattle.end_records.specs.Reports.{encode_report}
use Rattle.table.specs.Lookups.{short_for_report}
use Rattle.slots.specs.Stores.{stored_bytes}

-- message 1, 8, 3, 9, 10, where the table has `count` slots
unfoldable pub write_message_refusal : List ℕ → ℕ → Option Refusal
write_message_refusal m count =
    need (eqb (length m) (write_size key_size)) Ragged
    (need (eqb (get_or m write_kind 0) is_write) WrongKind
    (need (not (is_some (write_flaw key_size m))) (BadRecord 0)
    (need (ltb (decode_write key_size m).slot count) NoSuchSlot
    (need (not (eqb (decode_write key_size m).sequence 0)) SequenceZero None))))

-- table 4; the message's; then 5
unfoldable pub write_call_refusal : List ℕ → List ℕ → ℕ → Option Refusal
write_call_refusal table m out_len =
    or_else (slots_refusal table) (or_else (write_message_refusal m (slot_count key_size table)) (short_for_report out_len))

-- the slots after it, and the table's bytes; a refusal changes none
unfoldable pub slots_after_write : List ℕ → List ℕ → ℕ → List Slot
slots_after_write table m out_len =
    unless_refused (write_call_refusal table m out_len) (slots key_size table) (after_write (slots key_size table) (decode_write key_size m))

unfoldable pub table_after_write : List ℕ → List ℕ → ℕ → List ℕ
table_after_write table m out_len =
    unless_refused (write_call_refusal table m out_len) table (stored_bytes table (decode_write key_size m))

-- the report of the slot as it then is, at the start of the output; its other bytes stay
unfoldable pub out_after_write : List ℕ → List ℕ → List ℕ → List ℕ
out_after_write table m out =
    unless_refused (write_call_refusal table m (length out)) out
    (splice 0 (encode_report (write_report (slots key_size table) (decode_write key_size m))) out)

-- what it is to receive a write: the answer r, and the buffers after it
pub record Received (table m out : List ℕ) (r : Result ⊤ Refusal) (table' out' : List ℕ) : Type 0 where
  pub answer : r ≡ verdict_of (write_call_refusal table m (length out))
  pub table-after : table' ≡ table_after_write table m (length out)
  pub meaning : slots key_size table' ≡ slots_after_write table m (length out)
  pub out-after : out' ≡ out_after_write table m out

-- what a write is that a table of `count` slots does not refuse
pub record GoodWrite (m : List ℕ) (count : ℕ) : Type 0 where
  pub long : length m ≡ write_size key_size
  pub kind : get_or m write_kind 0 ≡ is_write
  pub clean : write_flaw key_size m ≡ None
  pub slot-there : (decode_write key_size m).slot < count
  pub live : 0 < (decode_write key_size m).sequence

-- what a call is that is not refused
pub record GoodCall (table m : List ℕ) (out_len : ℕ) : Type 0 where
  pub whole : WholeSlots table
  pub good : GoodWrite m (slot_count key_size table)
  pub fits : report_size ≤ out_len
