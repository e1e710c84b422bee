-- The table's calls on bytes, and the model's on slots: a write that is not refused here is not refused there, and the other way round where
-- its length, kind and spare bytes are right; which lookups are refused; what a call that is not refused does. Assumes nothing.
use mathlib.Core.Path.{◌≡◌, refl}
use mathlib.Core.Bool.{false}
use mathlib.Core.List.{List}
use Rattle.std.specs.Prelude.{Option, None, Some, Result, Ok, ⊤, option_map}
use mathlib.Core.Logic.{◌↔◌}
use Prim.Native.Nat.{ℕ, ◌≤◌}
use native.Mathlib.Omega.{arith}
use lib.Dec.{leb, eqb}
use lib.ListN.{length, get_or}
use borrow.Author.Tests.{le-leb, lt-leb, eq-eqb, ne_eqb}
use Rattle.ends.specs.Ends.{first_for, lookup, after_lookup, write_refusal, after_write, write_report}
use Rattle.ends.proofs.Refusals.{write-taken}
use Rattle.ternary.specs.Sizes.{key_size, positions}
use Rattle.buffers.specs.Parts.{splice}
use Rattle.records.specs.Layout.{write_kind, is_write, write_size, report_size}
use Rattle.checks.specs.declared.refusal.Refusal.{Refusal}
use Rattle.checks.specs.Flaws.{Zeros, write_spares}
use Rattle.checks.proofs.CleanLaws.{write-clean}
use Rattle.checks.proofs.RefusalLaws.{none_first, key-accepted}
use Rattle.checks.specs.Keys.{key_refusal}
use Rattle.end_records.specs.Slots.{slots}
use Rattle.records.specs.SlotBuffers.{slot_count, WholeSlots}
use Rattle.end_records.proofs.SlotLaws.{slot-count}
use Rattle.checks.proofs.FitLaws.{slots-accepted}
use Rattle.end_records.specs.Writes.{decode_write}
use Rattle.end_records.specs.Reports.{encode_report}
use Rattle.table.specs.Lookups.{hit_refusal, lookup_refusal, GoodLookup, hit_told, told_of}
use Rattle.table.specs.Lookups.{lookup_answer, slots_after_lookup, out_after_lookup, LookedUp}
use Rattle.table.specs.Writes.{write_call_refusal, GoodWrite, slots_after_write, out_after_write, Received}
use Rattle.table.specs.declared.Hit.{Hit}
use Rattle.table.proofs.LookupLaws.{lookup-whole, hit-long}
use Rattle.table.proofs.WriteLaws.{good-call}

module _ (table m : List ℕ) where
  -- what is not refused as bytes is not refused by the model
  pub good-there : GoodWrite m (slot_count key_size table) → write_refusal positions (slots key_size table) (decode_write key_size m) ≡ None
  unfolding write_refusal decode_write
  good-there h =
      let w = decode_write key_size m in
      let there : leb (length (slots key_size table)) w.slot ≡ false =
      lt-leb (length (slots key_size table)) w.slot (omega (arith, slot-count key_size table, h.slot-there))
      in
      let live : eqb w.sequence 0 ≡ false = ne_eqb w.sequence 0 (λ z. absurd (omega (arith, h.live))) in
      rw (((write-clean key_size m).0 h.clean).1, there, live)

  -- and the other way round, where length, kind and spare bytes are right
  pub good-here : length m ≡ write_size key_size → get_or m write_kind 0 ≡ is_write
      → Zeros (write_spares key_size) m
      → write_refusal positions (slots key_size table) (decode_write key_size m) ≡ None → GoodWrite m (slot_count key_size table)
  unfolding decode_write
  good-here l k z e =
      let taken = write-taken positions (slots key_size table) (decode_write key_size m) e in
      record {
        long = l;
        kind = k;
        clean = (write-clean key_size m).1 (z, taken.0);
        slot-there = omega (arith, slot-count key_size table, taken.1);
        live = taken.2;
      }

  -- so a call on whole slots, with room for the report, is refused exactly as the model says
  pub taken_here : (out_len : ℕ) → WholeSlots table → length m ≡ write_size key_size → get_or m write_kind 0 ≡ is_write
      → Zeros (write_spares key_size) m
      → write_refusal positions (slots key_size table) (decode_write key_size m) ≡ None → report_size ≤ out_len
      → write_call_refusal table m out_len ≡ None
  taken_here out_len whole l k z e fits = (good-call table m out_len).1 (record { whole = whole; good = good-here l k z e; fits = fits })

  pub taken-there : (out_len : ℕ) → write_call_refusal table m out_len ≡ None
      → write_refusal positions (slots key_size table) (decode_write key_size m) ≡ None
  taken-there out_len e = good-there ((good-call table m out_len).0 e).good

-- ---- which lookups are not refused

long-enough : (f : Option ℕ) (out_len : ℕ) → ((i : ℕ) → f ≡ Some i → report_size ≤ out_len) → hit_refusal f out_len ≡ None
long-enough None out_len h = refl
long-enough (Some i) out_len h = rw (le-leb report_size out_len (h i refl))

pub good-lookup : (key table : List ℕ) (out_len : ℕ) → (lookup_refusal key table out_len ≡ None) ↔ GoodLookup key table out_len
unfolding lookup_refusal key_refusal
good-lookup key table out_len = (
  λ e.
      record {
        long = key-accepted key (none_first (key_refusal key) _ e).0;
        whole = lookup-whole key table out_len e;
        fits = λ i f. hit-long key table out_len i e f;
      },
  λ h. rw (
    eq-eqb (length key) key_size h.long,
    (slots-accepted table).1 h.whole,
    long-enough (first_for positions (slots key_size table) key) out_len h.fits,
  ),
)

-- ---- what a call that is not refused is in the model

module _ {key table out table' out' : List ℕ} {r : Result (Option Hit) Refusal} (is : LookedUp key table out r table' out') where
  pub looked-up : lookup_refusal key table (length out) ≡ None
      → (r ≡ Ok (option_map hit_told (lookup positions (slots key_size table) key)))
      × (slots key_size table' ≡ after_lookup positions (slots key_size table) key)
      × (out' ≡ told_of (lookup positions (slots key_size table) key) out)
  unfolding lookup_answer slots_after_lookup out_after_lookup
  looked-up e = (rw e at is.answer, rw e at is.meaning, rw e at is.out-after)

module _ {table m out table' out' : List ℕ} {r : Result ⊤ Refusal} (is : Received table m out r table' out') where
  pub received : write_call_refusal table m (length out) ≡ None
      → (r ≡ (Ok tt)) × (slots key_size table' ≡ after_write (slots key_size table) (decode_write key_size m))
      × (out' ≡ splice 0 (encode_report (write_report (slots key_size table) (decode_write key_size m))) out)
  unfolding slots_after_write out_after_write
  received e = (rw e at is.answer, rw e at is.meaning, rw e at is.out-after)
