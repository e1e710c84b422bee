-- The table's calls as events: a lookup is a packet, a write that is not refused is one that arrives. Assumes nothing.
use mathlib.Core.Path.{◌≡◌, refl, ◌∙◌}
use mathlib.Core.List.{List, Memᴰ}
use Rattle.std.specs.Prelude.{Option, None, Some, Result, ⊤}
use Prim.Native.Nat.{ℕ, ◌<◌}
use native.Mathlib.Omega.{arith}
use lib.ListN.{length}
use Rattle.ends.specs.Records.{Slot, Write, Report, report_for, slot_at}
use Rattle.ends.specs.Ends.{PolicyView, first_for, counted, hit_at, lookup, write_report}
use Rattle.ends.specs.World.{packet, write_arrives, hit_report, step}
use Rattle.ternary.specs.Sizes.{key_size, positions}
use Rattle.checks.specs.declared.refusal.Refusal.{Refusal}
use Rattle.end_records.specs.Slots.{slots}
use Rattle.records.specs.SlotBuffers.{slot_count, WholeSlots}
use Rattle.end_records.proofs.ByteSlots.{counted-byte}
use Rattle.end_records.proofs.SlotBytes.{slots-byte}
use Rattle.slots.proofs.FindLaws.{held_below}
use Rattle.end_records.specs.Writes.{decode_write}
use Rattle.end_records.specs.Reports.{decode_report, ReportFits}
use Rattle.table.specs.Lookups.{lookup_refusal, lookup_answer, table_after_lookup, LookedUp}
use Rattle.table.specs.declared.Hit.{Hit}
use Rattle.table.proofs.SlotReports.{report-fits}
use Rattle.table.specs.Writes.{write_call_refusal, table_after_write, Received}
use Rattle.table.proofs.WriteLaws.{good-call}
use Rattle.table.proofs.ModelLaws.{taken-there, good-lookup, looked-up, received}
use Rattle.table.proofs.AfterLaws.{after_lookup_lem, after_write_lem}
use Rattle.promises.specs.Calls.{State, lookup_gave, write_gave, after, lookup as lookup_call, write as write_call}
use Rattle.promises.proofs.MessageBytes.{ReportBytes}
use Rattle.promises.proofs.Given.{Gives, gives_none, gives-report, sent-meant, place_of}
use Rattle.promises.proofs.Meaning.{meaning, same-world, Formed, Replaced, Stepped, whole_of, table-whole, table-slots, stayed, table-formed}

module _ (p : PolicyView) {count : ℕ} {s : State} (f : Formed count s) where
  abbrev t : List Slot
  t = slots key_size s.table

  module _ {key out : List ℕ} {r : Result (Option Hit) Refusal} {table' out' : List ℕ} (is : LookedUp key s.table out r table' out') where
    lookup-replaced : Replaced s.table table'
    lookup-replaced =
        let b = after_lookup_lem s.table f.table-bytes key (length out) in
        rw is.table-after (record { long = b.long; bytes = b.bytes })

    lookup-gives : (at : Option ℕ) → first_for positions t key ≡ at → lookup_refusal key s.table (length out) ≡ None
        → Gives decode_report ReportBytes (lookup_gave r out') (hit_report (hit_at t at))
    unfolding lookup
    lookup-gives None e fine = rw ((looked-up is fine).0, e) gives_none
    lookup-gives (Some i) e fine =
        let a = looked-up is fine in
        let l = held_below s.table key i e in
        let x : Report = report_for i (counted (slot_at t i)) in
        let fits : ReportFits x =
        report-fits i (counted (slot_at t i)) (omega (arith, (table-whole f).few-there))
        (counted-byte key_size _ ((table-slots f).each i l))
        in
        rw (a.0, a.2, e) (gives-report x fits out (((good-lookup key s.table (length out)).0 fine).fits i e))

    pub looked : (o : Option Refusal) → lookup_refusal key s.table (length out) ≡ o
        → Stepped p count s (after s (lookup_call key out r table' out'))
    unfolding step meaning lookup lookup_answer table_after_lookup
    looked (Some x) e =
        let refusal = rw e at is.answer in
        let left = rw e at is.table-after in
        rw (refusal, left) (stayed f)
    looked None e =
        let gives = lookup-gives (first_for positions t key) refl e in
        record {
          event = packet key;
          meant = same-world refl (looked-up is e).1 refl (sent-meant s.reports gives);
          formed = table-formed f (lookup_gave r out') lookup-replaced gives;
        }

  module _ {m out : List ℕ} {r : Result ⊤ Refusal} {table' out' : List ℕ} (is : Received s.table m out r table' out') where
    -- a write that is not refused was given
    module _ (fine : write_call_refusal s.table m (length out) ≡ None) (given : Memᴰ m s.writes) where
      write-replaced : Replaced s.table table'
      write-replaced =
          let b = after_write_lem s.table f.table-bytes m (f.writes-formed m given).bytes (length out) in
          rw is.table-after (record { long = b.long; bytes = b.bytes })

      write-gives : Gives decode_report ReportBytes (write_gave r out') (Some (write_report t (decode_write key_size m)))
      unfolding write_report
      write-gives =
          let a = received is fine in
          let call = (good-call s.table m (length out)).0 fine in
          let w : Write = decode_write key_size m in
          let b = write-replaced in
          let whole : WholeSlots table' = whole_of f table' (b.long ∙ f.table-long) in
          let l : w.slot < slot_count key_size table' = omega (arith, call.good.slot-there, b.long) in
          let fits : ReportFits (report_for w.slot (slot_at (slots key_size table') w.slot)) =
          report-fits w.slot _ (omega (arith, whole.few-there)) ((slots-byte table' whole b.bytes).each w.slot l)
          in
          rw (a.0, a.2) (gives-report _ (rw a.1 at fits) out call.fits)

      took : Stepped p count s (after s (write_call m out r table' out'))
      unfolding step meaning
      took =
          let at = place_of (decode_write key_size) s.writes m given in
          record {
            event = write_arrives at.0;
            meant = rw (at.1, taken-there s.table m (length out) fine)
                (same-world refl (received is fine).1 refl (sent-meant s.reports write-gives));
            formed = table-formed f (write_gave r out') write-replaced write-gives;
          }

    pub wrote : (o : Option Refusal) → write_call_refusal s.table m (length out) ≡ o
        → (write_call_refusal s.table m (length out) ≡ None → Memᴰ m s.writes)
        → Stepped p count s (after s (write_call m out r table' out'))
    unfolding table_after_write
    wrote (Some x) e given =
        let refusal = rw e at is.answer in
        let left = rw e at is.table-after in
        rw (refusal, left) (stayed f)
    wrote None e given = took e (given e)
