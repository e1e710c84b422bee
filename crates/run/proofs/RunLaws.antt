-- A run: what its parts are where none is refused, and each way out of the call. Assumes nothing.
use mathlib.Core.Path.{◌≡◌, refl, sym, ap, ◌∙◌}
use mathlib.Core.Bool.{not}
use mathlib.Core.List.{List}
use Rattle.std.specs.Prelude.{Option, None, Result, Ok, Err, ⊤}
use Prim.Native.Nat.{ℕ, ◌*◌, ◌%◌, ◌≤◌}
use native.Mathlib.Omega.{arith}
use lib.Dec.{leb, ltb, eqb}
use lib.ListN.{length}
use borrow.Author.Tests.{eqb-true, leb-true, ltb-false}
use Rattle.model.specs.Bits.{Bytes}
use Rattle.ends.specs.Records.{Totals}
use Rattle.ends.specs.Trace.{Ends}
use Rattle.model.proofs.Cases.{not-true}
use Rattle.ternary.specs.Sizes.{key_size}
use Rattle.buffers.specs.Parts.{spelled}
use Rattle.records.specs.Layout.{trace_size, outcome_size, most_packets}
use Rattle.records.specs.Traces.{packet_count, keys}
use Rattle.checks.specs.declared.refusal.Refusal.{Refusal}
use Rattle.checks.specs.Refusals.{verdict_of}
use Rattle.checks.proofs.RefusalLaws.{none_first, need-none, verdict-refused}
use Rattle.end_records.specs.Slots.{encode_slot}
use Rattle.checks.specs.BufferRefusals.{slots_refusal}
use Rattle.records.specs.SlotBuffers.{WholeSlots}
use Rattle.checks.proofs.FitLaws.{slots-accepted}
use Rattle.end_records.proofs.SlotBytes.{spelled_back}
use Rattle.policy.specs.Refusals.{policy_refusal}
use Rattle.policy.proofs.CheckLaws.{passed-few}
use Rattle.totals.specs.declared.Totals.{Totals as TotalsStruct}
use Rattle.totals.specs.Sums.{as_totals, most_total, totals_fit, AtMost}
use Rattle.totals.proofs.SumLaws.{fit-most}
use Rattle.run.specs.Steps.{RunFits, RanOver}
use Rattle.run.specs.Refusals.{trace_refusal, ends_refusal, run_refusal}
use Rattle.run.specs.Runs.{RunResult, run_of, RunIs}

-- ---- where no part is refused

-- a trace that is not refused has few records
trace-short : (bs : List ℕ) → trace_refusal bs ≡ None → packet_count key_size bs ≤ most_packets
unfolding trace_refusal
trace-short bs e =
    let later = (need-none (eqb (length bs % trace_size key_size) 0) _ _ e).1 in
    ltb-false most_packets (packet_count key_size bs) (not-true (need-none (not (ltb most_packets (packet_count key_size bs))) _ _ later).0)

module _ (policy trace table keeper out : List ℕ) (t : Totals) (fine : run_refusal policy trace table keeper (length out) t ≡ None) where
  -- the parts, in the order of the tests
  parts : (policy_refusal policy ≡ None) × (trace_refusal trace ≡ None) × (ends_refusal table keeper ≡ None) × (AtMost most_total t)
      × (outcome_size * packet_count key_size trace ≤ length out)
  unfolding run_refusal
  parts =
      let a = none_first (policy_refusal policy) _ fine in
      let b = none_first (trace_refusal trace) _ a.1 in
      let c = none_first (ends_refusal table keeper) _ b.1 in
      let d = need-none (totals_fit t) _ _ c.1 in
      let e = need-none (leb (outcome_size * packet_count key_size trace) (length out)) _ None d.1 in
      (a.0, b.0, c.0, fit-most t d.0, leb-true _ _ e.0)

  ends : WholeSlots table × WholeSlots keeper
  unfolding ends_refusal
  ends =
      let a = none_first (slots_refusal table) _ parts.2 in
      ((slots-accepted table).0 a.0, (slots-accepted keeper).0 (none_first (slots_refusal keeper) _ a.1).0)

  -- the trace is whole records
  pub run-whole : length trace ≡ trace_size key_size * packet_count key_size trace
  unfolding trace_refusal
  run-whole =
      let e = eqb-true (length trace % trace_size key_size) 0 (need-none (eqb (length trace % trace_size key_size) 0) _ _ parts.1).0 in
      omega (arith, e)

  pub run_fits : RunFits policy trace table keeper out × AtMost most_total t
  run_fits = (
    record {
      few = passed-few policy parts.0;
      short = trace-short trace parts.1;
      table-whole = ends.0;
      keeper-whole = ends.1;
      room = parts.4;
    },
    parts.3,
  )

-- ---- the call

same-shown : {a b : RunResult} → a.answer ≡ b.answer → a.totals ≡ b.totals → a.table ≡ b.table → a.keeper ≡ b.keeper → a.out ≡ b.out → a ≡ b
same-shown p q r s t i = record { answer = p i; totals = q i; table = r i; keeper = s i; out = t i }

module _ (policy trace table keeper out : List ℕ) (t : TotalsStruct) where
  abbrev refused : Option Refusal
  refused = run_refusal policy trace table keeper (length out) (as_totals t)

  pub run-refused : {r : Refusal} {a : Result ⊤ Refusal} → a ≡ verdict_of refused → a ≡ Err r
      → RunIs policy trace table keeper out (as_totals t) (record { answer = Err r; totals = t }) table keeper out
  unfolding run_of
  run-refused e s = let o = verdict-refused refused e s in record { whole = rw o; meaning = rw o }

  pub run_ran : {s : TotalsStruct} {table' keeper' out' : List ℕ} → refused ≡ None
      → RanOver policy (keys key_size trace) table keeper out (as_totals t) table' keeper' out' (as_totals s)
      → length table' ≡ length table → Bytes table' → length keeper' ≡ length keeper → Bytes keeper'
      → RunIs policy trace table keeper out (as_totals t) (record { answer = Ok (packet_count key_size trace); totals = s }) table' keeper' out'
  unfolding run_of
  run_ran {table' = table'} {keeper'} o did l h m g =
      let w = (run_fits policy trace table keeper out (as_totals t) o).0 in
      record {
        whole = rw o
            (same-shown refl did.sums
            (sym (spelled_back table' l w.table-whole h) ∙ ap (λ (e : Ends). spelled encode_slot e.table) did.ends)
            (sym (spelled_back keeper' m w.keeper-whole g) ∙ ap (λ (e : Ends). spelled encode_slot e.keeper) did.ends)
            did.out-after);
        meaning = rw o did.ends;
      }
