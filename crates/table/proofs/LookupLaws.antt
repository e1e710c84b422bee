-- What a lookup comes to, from the slot that is found. Assumes nothing.
use mathlib.Core.Path.{◌≡◌, refl, sym, ap, ◌∙◌}
use mathlib.Core.List.{List}
use Rattle.std.specs.Prelude.{None, Some, Ok, Err}
use Prim.Native.Nat.{ℕ, ◌≤◌, ◌<◌}
use lib.Dec.{leb}
use lib.ListN.{length}
use borrow.Author.Tests.{leb-true}
use Rattle.ends.specs.Records.{Slot, slot_at, report_for}
use Rattle.ends.specs.Ends.{counted, first_for, lookup, after_lookup}
use Rattle.ternary.specs.Sizes.{key_size, positions}
use Rattle.buffers.specs.Parts.{splice}
use Rattle.records.specs.Layout.{report_size, most_slots}
use Rattle.checks.specs.declared.refusal.Refusal.{Refusal}
use Rattle.checks.proofs.RefusalLaws.{none_first, need-none, answer-refused, answer-given}
use Rattle.checks.specs.Keys.{key_refusal}
use Rattle.end_records.specs.Slots.{slots}
use Rattle.records.specs.SlotBuffers.{slot_count, WholeSlots}
use Rattle.checks.specs.BufferRefusals.{slots_refusal}
use Rattle.end_records.proofs.SlotLaws.{slot-at}
use Rattle.checks.proofs.FitLaws.{slots-accepted}
use Rattle.slots.proofs.FindLaws.{held_below, held-few}
use Rattle.slots.specs.Hits.{Counted}
use Rattle.end_records.specs.Reports.{encode_report}
use Rattle.table.specs.Lookups.{short_for_report, lookup_refusal, find_answer}
use Rattle.table.specs.Lookups.{lookup_answer, slots_after_lookup, table_after_lookup, out_after_lookup, LookedUp}

-- ---- what is found

module _ (key table : List ℕ) (out_len : ℕ) where
  -- a lookup that is not refused has a buffer of whole slots
  pub lookup-whole : lookup_refusal key table out_len ≡ None → WholeSlots table
  unfolding lookup_refusal
  lookup-whole e =
      (slots-accepted table).0 (none_first (slots_refusal table) _ (none_first (key_refusal key) _ e).1).0

  -- and, on a hit, room for a report
  pub hit-long : (i : ℕ) → lookup_refusal key table out_len ≡ None → first_for positions (slots key_size table) key ≡ Some i → report_size ≤ out_len
  unfolding lookup_refusal
  hit-long i e f =
      let h : short_for_report out_len ≡ None = rw f at (none_first (slots_refusal table) _ (none_first (key_refusal key) _ e).1).1 in
      leb-true report_size out_len (need-none (leb report_size out_len) _ None h).0

  module _ (i : ℕ) (e : Ok (Some i) ≡ find_answer key table out_len) where
    hit-there : (lookup_refusal key table out_len ≡ None) × (first_for positions (slots key_size table) key ≡ Some i)
    unfolding find_answer
    hit-there = let h = answer-given (lookup_refusal key table out_len) (first_for positions (slots key_size table) key) e refl in (h.0, sym h.1)

    -- the slot that is found is one of the table, and the output has room for its report
    pub hit-below : i < slot_count key_size table
    hit-below = held_below table key i hit-there.1

    pub hit_few : i < most_slots
    hit_few = held-few table key i hit-there.1 (lookup-whole hit-there.0)

    pub hit-fits : report_size ≤ out_len
    hit-fits = hit-long i hit-there.0 hit-there.1

-- ---- the call

module _ (key table out : List ℕ) where
  pub looked-refused : (r : Refusal) → Err r ≡ find_answer key table (length out) → LookedUp key table out (Err r) table out
  unfolding find_answer lookup_answer slots_after_lookup table_after_lookup out_after_lookup
  looked-refused r e =
      let refused = answer-refused (lookup_refusal key table (length out)) (first_for positions (slots key_size table) key) e refl in
      record { answer = rw refused; table-after = rw refused; meaning = rw refused; out-after = rw refused }

  pub looked-missed : Ok None ≡ find_answer key table (length out) → LookedUp key table out (Ok None) table out
  unfolding find_answer lookup_answer slots_after_lookup table_after_lookup out_after_lookup lookup after_lookup
  looked-missed e =
      let m = answer-given (lookup_refusal key table (length out)) (first_for positions (slots key_size table) key) e refl in
      record { answer = rw (m.0, ← m.1); table-after = rw (m.0, ← m.1); meaning = rw (m.0, ← m.1); out-after = rw (m.0, ← m.1) }

  pub looked-hit : (i : ℕ) (x : Slot) (table' out' : List ℕ) → Ok (Some i) ≡ find_answer key table (length out) → Counted table i x table'
      → out' ≡ splice 0 (encode_report (report_for i x)) out
      → LookedUp key table out (Ok (Some (record { slot = i; rule = x.rule; action = x.action }))) table' out'
  unfolding lookup_answer slots_after_lookup table_after_lookup out_after_lookup lookup after_lookup
  looked-hit i x table' out' e c t =
      let m = hit-there key table (length out) i e in
      let there : x ≡ counted (slot_at (slots key_size table) i) =
      rw (slot-at key_size table i (hit-below key table (length out) i e)) c.slot
      in
      record {
        answer = rw (m.0, m.1, there);
        table-after = rw (m.0, m.1) (rw there at c.put.bytes);
        meaning = rw (m.0, m.1) (rw there at c.put.meaning);
        out-after = rw (m.0, m.1) (t ∙ ap (λ (y : Slot). splice 0 (encode_report (report_for i y)) out) there);
      }
