-- A report that goes to the keeper; a write that goes to the table, and its report back. Assumes nothing.
use mathlib.Core.Path.{◌≡◌, refl, sym, ap, ◌∙◌}
use mathlib.Core.List.{List}
use Rattle.std.specs.Prelude.{Option, None, Some, Result, Ok, Err, ⊤}
use Prim.Native.Nat.{ℕ, ◌<◌}
use native.Mathlib.Omega.{arith}
use lib.ListN.{length}
use Rattle.model.specs.Bits.{Bytes}
use Rattle.ends.specs.Records.{Slot, Write, Report, report_for, slot_at}
use Rattle.ends.specs.Ends.{write_refusal, after_write, write_report, report_refusal, after_report}
use Rattle.ends.specs.Trace.{Ends, reported_to, written_to}
use Rattle.model.proofs.Cases.{none-some}
use Rattle.ternary.specs.Sizes.{key_size, positions}
use Rattle.buffers.proofs.PartLaws.{splice_all}
use Rattle.records.specs.Layout.{report_size}
use Rattle.checks.specs.Refusals.{unless_refused}
use Rattle.checks.specs.declared.refusal.Refusal.{Refusal}
use Rattle.end_records.specs.Slots.{slots}
use Rattle.records.specs.SlotBuffers.{slot_count, WholeSlots}
use Rattle.records.proofs.SlotBufferLaws.{as-whole}
use Rattle.end_records.proofs.SlotBytes.{slots-byte}
use Rattle.end_records.specs.Writes.{decode_write, encode_write, WriteFits}
use Rattle.end_records.specs.Reports.{decode_report, encode_report, ReportFits}
use Rattle.end_records.proofs.WriteLaws.{decode-encode-write, length-encode-write, spares-encode-write}
use Rattle.end_records.proofs.ReportLaws.{decode-encode-report}
use Rattle.table.proofs.SlotReports.{report-fits}
use Rattle.table.specs.Writes.{write_call_refusal, Received, slots_after_write}
use Rattle.checks.proofs.RefusalLaws.{verdict-refused, verdict-fine}
use Rattle.table.proofs.WriteLaws.{good-call}
use Rattle.table.proofs.ModelLaws.{taken_here, taken-there, received}
use Rattle.keeper.specs.Reports.{numbered, report_refused, Reported}
use Rattle.keeper.proofs.ReportLaws.{report-meaning}
use Rattle.run.specs.Send.{ends_in, WholeEnds, sent_ends}

-- ends with the same slots are the same
pub same_ends : {a b : Ends} → a.keeper ≡ b.keeper → a.table ≡ b.table → a ≡ b
same_ends p q i = record { keeper = p i; table = q i }

-- ---- a report goes to the keeper

-- the report of a table's slot is one that a report's bytes can hold
pub told-fits : (table : List ℕ) (i : ℕ) → Bytes table → WholeSlots table → i < slot_count key_size table
    → ReportFits (report_for i (slot_at (slots key_size table) i))
told-fits table i h whole l = report-fits i _ (omega (arith, whole.few-there)) ((slots-byte table whole h).each i l)

module _ (keeper : List ℕ) (x : Report) (whole : WholeSlots keeper) (f : ReportFits x) where
  abbrev k : List Slot
  k = slots key_size keeper

  left : (o : Option ℕ) → unless_refused (numbered o) k (after_report k x) ≡ reported_to k x o
  left None = refl
  left (Some n) = refl

  refused_as : report_refused keeper (encode_report x) ≡ numbered (report_refusal k x)
  refused_as =
      report-meaning keeper (encode_report x) whole (unfold encode_report in refl) (unfold encode_report in refl) (unfold encode_report in refl)
      ∙ ap (λ (y : Report). numbered (report_refusal k y)) (decode-encode-report x f)

  pub reported-to : {message keeper' : List ℕ} {r : Result ⊤ Refusal} → message ≡ encode_report x → Reported keeper message r keeper'
      → slots key_size keeper' ≡ reported_to k x (report_refusal k x)
  reported-to {keeper' = keeper'} e is =
      let told : slots key_size keeper' ≡ unless_refused (report_refused keeper (encode_report x)) k
      (after_report k (decode_report (encode_report x))) =
      rw e at is.meaning
      in
      (rw (refused_as, decode-encode-report x f) at told) ∙ left (report_refusal k x)

-- ---- a write goes to the table

module _ {table keeper m out table' out' : List ℕ} {r : Result ⊤ Refusal} {w : Write}
    (ends : WholeEnds table keeper) (f : WriteFits key_size w) (spells : m ≡ encode_write w) (room : length out ≡ report_size)
    (is : Received table m out r table' out') where
  abbrev t : List Slot
  t = slots key_size table

  means : decode_write key_size m ≡ w
  means = rw spells (decode-encode-write key_size w f)

  -- the table refuses it where the model does
  here : write_refusal positions t w ≡ None → write_call_refusal table m (length out) ≡ None
  unfolding encode_write
  here e =
      let z = spares-encode-write key_size w f in
      taken_here table m (length out) ends.table-whole (rw spells (length-encode-write key_size w f)) (rw spells)
      (rw spells (refl, (z.0, (z.1, tt)))) (rw means e) (omega arith)

  kept : (o : Option ℕ) → write_refusal positions t w ≡ o → {q : Refusal} → write_call_refusal table m (length out) ≡ Some q
      → written_to (slots key_size keeper) t w o ≡ ends_in table keeper
  kept (Some number) e s = refl
  kept None e s = none-some (sym (here e) ∙ s)

  pub sent-refused : {q : Refusal} → r ≡ Err q → ends_in table' keeper ≡ sent_ends table keeper w
  unfolding slots_after_write
  sent-refused {q} e =
      let s : write_call_refusal table m (length out) ≡ Some q = verdict-refused _ is.answer e in
      same_ends refl (rw s at is.meaning) ∙ sym (kept (write_refusal positions t w) refl s)

  pub sent-taken : {keeper' : List ℕ} {a : Result ⊤ Refusal} → r ≡ (Ok tt) → length table' ≡ length table → Bytes table'
      → Reported keeper out' a keeper' → ends_in table' keeper' ≡ sent_ends table keeper w
  unfolding write_report
  sent-taken {keeper'} e l h reported =
      let fine : write_call_refusal table m (length out) ≡ None = verdict-fine _ is.answer e in
      let taken : write_refusal positions t w ≡ None = rw means at (taken-there table m (length out) fine) in
      let did = received is fine in
      let after : slots key_size table' ≡ after_write t w = rw means at did.1 in
      let inside : w.slot < slot_count key_size table' =
      omega (arith, l, ap (λ (x : Write). x.slot) means, ((good-call table m (length out)).0 fine).good.slot-there)
      in
      let fits : ReportFits (write_report t w) = rw after at (told-fits table' w.slot h (as-whole l ends.table-whole) inside) in
      let told : out' ≡ encode_report (write_report t w) =
      (rw means at did.2) ∙ splice_all (encode_report (write_report t w)) out (unfold encode_report in sym room)
      in
      rw taken (same_ends (reported-to keeper (write_report t w) ends.keeper-whole fits told reported) after)
