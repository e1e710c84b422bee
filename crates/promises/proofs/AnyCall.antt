-- No call is shut out from the sequences: with any arguments that are bytes it has an answer as its function promises. Assumes nothing.
use mathlib.Core.Path.{◌≡◌, refl}
use mathlib.Core.List.{List}
use Rattle.std.specs.Prelude.{Option, None, Some, Ok, Err}
use Prim.Native.Nat.{ℕ, ◌<◌}
use native.Mathlib.Omega.{arith}
use lib.ListN.{length, set}
use Rattle.model.specs.Bits.{Bytes}
use Rattle.ends.specs.Records.{Slot, Report, Totals, written, slot_at}
use Rattle.ends.specs.Ends.{Miss, no_rule, again, new_entry, used_up, miss_keeper, is_current, confirmed, after_report}
use Rattle.ends.specs.Trace.{Ends}
use Rattle.ends.specs.Totals.{totals_after}
use Rattle.model.proofs.Cases.{by_cases}
use Rattle.ternary.specs.Sizes.{key_size}
use Rattle.buffers.specs.Parts.{splice, spelled}
use Rattle.buffers.proofs.ByteLaws.{four_below}
use Rattle.records.specs.Layout.{report_hits}
use Rattle.records.specs.Traces.{packet_count, keys}
use Rattle.checks.specs.Refusals.{unless_refused}
use Rattle.checks.specs.declared.refusal.Refusal.{Refusal}
use Rattle.checks.proofs.RefusalLaws.{none_first}
use Rattle.end_records.specs.Slots.{encode_slot, slots, put_slot}
use Rattle.records.specs.SlotBuffers.{slot_count}
use Rattle.end_records.proofs.SlotLaws.{slots-put}
use Rattle.end_records.proofs.ByteSlots.{ByteSlot, confirmed-byte}
use Rattle.end_records.proofs.SlotBytes.{spelled-slots}
use Rattle.end_records.specs.Reports.{decode_report}
use Rattle.records.specs.Outcomes.{encode_outcome}
use Rattle.policy.specs.Refusals.{policy_refusal}
use Rattle.policy.proofs.Acceptance.{accepted-bytes}
use Rattle.table.proofs.AfterLaws.{after_lookup_lem, after_write_lem}
use Rattle.slots.specs.Settle.{report_bytes}
use Rattle.keeper.specs.Reports.{report_refused, report_answer}
use Rattle.keeper.proofs.ReportLaws.{accepted-of}
use Rattle.miss.specs.Decide.{miss_in}
use Rattle.policy.specs.Lent.{lent_refusal}
use Rattle.policy.proofs.LentLaws.{parts-fine}
use Rattle.miss.specs.Answers.{miss_refused, miss_bytes}
use Rattle.totals.specs.declared.Totals.{Totals as TotalsStruct}
use Rattle.run.specs.Send.{ends_in}
use Rattle.run.specs.Refusals.{run_refusal}
use Rattle.run.specs.Runs.{outcomes_of, ends_of, run_of, RunIs}
use Rattle.run.specs.declared.Ran.{Ran}
use Rattle.promises.specs.Calls.{State}
use Rattle.promises.specs.AnyCall.{AnyCall}
use Rattle.promises.proofs.PacketBytes.{trace-byte}
use Rattle.promises.proofs.MissBytes.{MissFits, miss-fits}
use Rattle.promises.proofs.Meaning.{Formed, keeper-whole, keeper-room, keeper-slots, both-slots}

-- the model's record as the code's struct
abbrev totals_struct : Totals → TotalsStruct
totals_struct t = record { packets = t.packets; hits = t.hits; misses = t.misses; none = t.no_rule; evictions = t.evictions }

module _ {count : ℕ} {s : State} (f : Formed count s) where
  abbrev k : List Slot
  k = slots key_size s.keeper

  put-slots : (i : ℕ) (x : Slot) → i < slot_count key_size s.keeper → ByteSlot key_size x
      → slots key_size (put_slot key_size s.keeper i x) ≡ set k i x
  put-slots i x l b = slots-put key_size s.keeper i x l (keeper-room f i l) b.fits

  -- ---- a miss

  miss-slots : (m : Miss) → MissFits (slot_count key_size s.keeper) m → slots key_size (miss_bytes s.keeper m) ≡ miss_keeper k m
  miss-slots no_rule h = refl
  miss-slots (again i) h = refl
  miss-slots (new_entry i e) h = put-slots i (written e) h.0 h.1
  miss-slots (used_up r) h = refl

  miss-meant : (policy key : List ℕ) (out_len : ℕ) → Bytes policy → (o : Option Refusal) → miss_refused policy key s.keeper out_len ≡ o
      → let m = miss_in policy key s.keeper in
      slots key_size (unless_refused o s.keeper (miss_bytes s.keeper m)) ≡ unless_refused o k (miss_keeper k m)
  unfolding miss_refused
  miss-meant policy key out_len b (Some x) e = refl
  miss-meant policy key out_len b None e =
      let fine = (parts-fine policy key s.keeper (none_first (lent_refusal policy key s.keeper) _ e).0).accepted in
      miss-slots (miss_in policy key s.keeper)
      (miss-fits policy b ((accepted-bytes policy).0 fine) k (keeper-slots f) (keeper-whole f).some-there key)

  -- ---- a report

  report-meant : (m : List ℕ) → Bytes m → (o : Option Refusal) → report_refused s.keeper m ≡ o
      → slots key_size (unless_refused o s.keeper (report_bytes s.keeper (decode_report m))) ≡ unless_refused o k (after_report k (decode_report m))
  unfolding report_answer report_bytes after_report decode_report
  report-meant m b (Some x) e = refl
  report-meant m b None e =
      let taken = accepted-of s.keeper m refl (rw e) in
      let x : Report = decode_report m in
      let low = four_below report_hits m b (omega (arith, taken.long)) in
      by_cases (is_current k x)
      (λ t. rw t (put-slots x.slot (confirmed (slot_at k x.slot) x.hits) taken.inside
      (confirmed-byte key_size (slot_at k x.slot) x.hits ((keeper-slots f).each x.slot taken.inside) low)))
      (λ t. rw t)

  -- ---- a run

  module _ (policy trace out : List ℕ) (t : Totals) (b : Bytes policy) where
    abbrev ends : Ends
    ends = ends_of policy trace s.table s.keeper

    ends-spelled : policy_refusal policy ≡ None → ends_in (spelled encode_slot ends.table) (spelled encode_slot ends.keeper) ≡ ends
    ends-spelled fine =
        let accepted = (accepted-bytes policy).0 fine in
        let bytes = trace-byte policy b accepted f.some-there (keys key_size trace) (ends_in s.table s.keeper) (both-slots f) in
        rw (spelled-slots count ends.table bytes.table, spelled-slots count ends.keeper bytes.keeper)

    run-answered : (o : Option Refusal) → run_refusal policy trace s.table s.keeper (length out) t ≡ o
        → (r : Ran) × (table' : List ℕ) × (keeper' : List ℕ) × (out' : List ℕ)
        × RunIs policy trace s.table s.keeper out t r table' keeper' out'
    unfolding run_of run_refusal
    run-answered (Some x) e = (
      record { answer = Err x; totals = totals_struct t },
      s.table,
      s.keeper,
      out,
      record { whole = rw e; meaning = rw e },
    )
    run-answered None e = (
      record {
        answer = Ok (packet_count key_size trace);
        totals = totals_struct (totals_after t (outcomes_of policy trace s.table s.keeper));
      },
      spelled encode_slot ends.table,
      spelled encode_slot ends.keeper,
      splice 0 (spelled encode_outcome (outcomes_of policy trace s.table s.keeper)) out,
      record { whole = rw e; meaning = rw e (ends-spelled (none_first (policy_refusal policy) _ e).0) },
    )

  pub any-call : AnyCall s
  any-call =
      record {
        lookups = λ key out.
            let meant = (after_lookup_lem s.table f.table-bytes key (length out)).meaning in
            (_, _, _, record { answer = refl; table-after = refl; meaning = meant; out-after = refl });
        writes = λ m out b.
            let meant = (after_write_lem s.table f.table-bytes m b (length out)).meaning in
            (_, _, _, record { answer = refl; table-after = refl; meaning = meant; out-after = refl });
        misses = λ policy key out b.
            (_, _, _, record { answer = refl; keeper-after = refl; meaning = miss-meant policy key (length out) b _ refl; out-after = refl });
        reports = λ m b. (_, _, record { answer = refl; keeper-after = refl; meaning = report-meant m b _ refl });
        opens = λ out. (_, _, record { answer = refl; out-after = refl });
        runs = λ policy trace out t b. run-answered policy trace out t b _ refl;
      }
