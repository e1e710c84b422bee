-- What the keeper answers to a report, and what it leaves in its buffer. Assumes nothing.
use Rattle.std.specs.Prelude.{◌≡◌, not, List, ℕ, eqb, length, get_or, Option, None, Some, Result, ⊤, is_some, cond}
use Rattle.ends.specs.Ends.{report_refusal, after_report}
use Rattle.checks.specs.declared.refusal.Refusal.TheVariants.{Ragged, BadRecord, WrongKind, NoSuchSlot, SequenceZero, ReportAhead}
use Rattle.model.specs.Refusals as number
use Rattle.ternary.specs.Sizes.{key_size}
use Rattle.records.specs.Layout.{report_kind, report_size, is_report}
use Rattle.checks.specs.Refusals.{or_else, need, unless_refused, verdict_of}
use Rattle.checks.specs.declared.refusal.Refusal.{Refusal}
use Rattle.checks.specs.Flaws.{report_flaw}
use Rattle.end_records.specs.Slots.{slots}
use Rattle.checks.specs.BufferRefusals.{slots_refusal}
use Rattle.end_records.specs.Reports.{decode_report}
use Rattle.slots.specs.Settle.{report_bytes}

-- the refusal with the model's number: 9, 10 or 11, which are all that it tells of a report
abbrev pub numbered : Option ℕ → Option Refusal
numbered None = None
numbered (Some n) = Some (cond (eqb n number.no_such_slot) NoSuchSlot (cond (eqb n number.sequence_zero) SequenceZero ReportAhead))

-- message 1, 8, 3
unfoldable pub bytes_refusal : List ℕ → Option Refusal
bytes_refusal message =
    need (eqb (length message) report_size) Ragged
    (need (eqb (get_or message report_kind 0) is_report) WrongKind (need (not (is_some (report_flaw message))) (BadRecord 0) None))

-- keeper 4; message 1, 8, 3; then 9, 10, 11, which the model tells of the slots and the report that the bytes mean
unfoldable pub report_refused : List ℕ → List ℕ → Option Refusal
report_refused keeper message =
    or_else (slots_refusal keeper) (or_else (bytes_refusal message) (numbered (report_refusal (slots key_size keeper) (decode_report message))))

unfoldable pub report_answer : List ℕ → List ℕ → Result ⊤ Refusal
report_answer keeper message = verdict_of (report_refused keeper message)

-- the answer; the keeper after it, byte by byte; and its slots
pub record Reported (keeper message : List ℕ) (r : Result ⊤ Refusal) (keeper' : List ℕ) : Type 0 where
  pub answer : r ≡ report_answer keeper message
  pub keeper-after : keeper' ≡ unless_refused (report_refused keeper message) keeper (report_bytes keeper (decode_report message))
  pub meaning : slots key_size keeper'
      ≡ unless_refused (report_refused keeper message) (slots key_size keeper) (after_report (slots key_size keeper) (decode_report message))
