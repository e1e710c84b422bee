-- The bytes that a call leaves in the table, without its code: as long as before, bytes, and the model's slots after it. Assumes nothing.
use mathlib.Core.Path.{◌≡◌, refl}
use mathlib.Core.Bool.{Bool, true, false, cond}
use mathlib.Core.List.{List}
use Rattle.std.specs.Prelude.{Option, None, Some}
use Prim.Native.Nat.{ℕ, ◌+◌, ◌*◌, ◌≤◌, ◌<◌}
use native.Mathlib.Omega.{arith}
use lib.ListN.{length, set}
use Rattle.model.specs.Bits.{Bytes}
use Rattle.ends.specs.Records.{Slot, slot_at, entry_in, written}
use Rattle.ends.specs.Ends.{counted, counted_at, first_for, after_lookup, is_newer, after_write}
use Rattle.ternary.specs.Sizes.{key_size, positions}
use Rattle.buffers.proofs.PartLaws.{part_length, part_bytes}
use Rattle.buffers.proofs.ByteLaws.{two-below, four_below}
use Rattle.records.specs.Layout.{slot_size, write_sequence, write_value, write_mask, write_action, write_rule, write_size}
use Rattle.checks.specs.Refusals.{unless_refused}
use Rattle.checks.specs.declared.refusal.Refusal.{Refusal}
use Rattle.end_records.specs.Slots.{slots, put_slot}
use Rattle.records.specs.SlotBuffers.{slot_count, WholeSlots}
use Rattle.end_records.proofs.SlotLaws.{slot-at, length-put-slot, slots-put}
use Rattle.end_records.proofs.ByteSlots.{ByteSlot, slot-byte, counted-byte, put-bytes}
use Rattle.slots.proofs.FindLaws.{held_below}
use Rattle.end_records.specs.Writes.{decode_write}
use Rattle.table.specs.Lookups.{lookup_refusal, counted_bytes, slots_after_lookup, table_after_lookup}
use Rattle.table.specs.Writes.{write_call_refusal, slots_after_write, table_after_write}
use Rattle.table.proofs.LookupLaws.{lookup-whole}
use Rattle.table.proofs.WriteLaws.{good-call}

-- a table's bytes became others of these slots
pub record Became (table : List ℕ) (new : List Slot) (after : List ℕ) : Type 0 where
  pub long : length after ≡ length table
  pub bytes : Bytes after
  pub meaning : slots key_size after ≡ new

module _ (table : List ℕ) (h : Bytes table) where
  same : Became table (slots key_size table) table
  same = record { long = refl; bytes = h; meaning = refl }

  module _ (whole : WholeSlots table) where
    -- one slot is another
    replaced : (i : ℕ) (x : Slot) → i < slot_count key_size table → ByteSlot key_size x
        → Became table (set (slots key_size table) i x) (put_slot key_size table i x)
    replaced i x l b =
        let room : slot_size key_size * i + slot_size key_size ≤ length table = omega (arith, whole.whole) in
        record {
          long = length-put-slot key_size table i x l room b.fits;
          bytes = put-bytes key_size table i room h x b;
          meaning = slots-put key_size table i x l room b.fits;
        }

    -- a slot of the table with one hit more
    counted-there : (i : ℕ) → i < slot_count key_size table → ByteSlot key_size (counted (slot_at (slots key_size table) i))
    counted-there i l =
        let room : slot_size key_size * i + slot_size key_size ≤ length table = omega (arith, whole.whole) in
        rw (slot-at key_size table i l) (counted-byte key_size _ (slot-byte key_size table i room h))

  -- ---- after a lookup

  module _ (key : List ℕ) (out_len : ℕ) where
    after-found : (o : Option Refusal) (f : Option ℕ) → lookup_refusal key table out_len ≡ o → first_for positions (slots key_size table) key ≡ f
        → Became table (unless_refused o (slots key_size table) (counted_at (slots key_size table) f))
        (unless_refused o table (counted_bytes table f))
    after-found (Some r) f e k = same
    after-found None None e k = same
    after-found None (Some i) e k =
        let l = held_below table key i k in
        replaced (lookup-whole key table out_len e) i _ l (counted-there (lookup-whole key table out_len e) i l)

    pub after_lookup_lem : Became table (slots_after_lookup key table out_len) (table_after_lookup key table out_len)
    unfolding slots_after_lookup table_after_lookup after_lookup
    after_lookup_lem = after-found (lookup_refusal key table out_len) (first_for positions (slots key_size table) key) refl refl

  -- ---- after a write

  module _ (m : List ℕ) (b : Bytes m) (out_len : ℕ) where
    written-there : length m ≡ write_size key_size → ByteSlot key_size (written (entry_in (decode_write key_size m)))
    unfolding decode_write
    written-there l =
        record {
          fits = record {
            sequence-fits = four_below write_sequence m b (omega arith);
            hits-fits = omega arith;
            value-long = part_length key_size write_value m (omega arith);
            mask-long = part_length key_size (write_mask key_size) m (omega arith);
            action-fits = two-below (write_action key_size) m b (omega arith);
            rule_fits = two-below (write_rule key_size) m b (omega arith);
          };
          value-bytes = part_bytes key_size write_value m b;
          mask-bytes = part_bytes key_size (write_mask key_size) m b;
          settled-byte = omega arith;
          spare-byte = omega arith;
        }

    after-newer : (o : Option Refusal) (newer : Bool) → write_call_refusal table m out_len ≡ o
        → let w = decode_write key_size m in
        let new = cond newer (set (slots key_size table) w.slot (written (entry_in w))) (slots key_size table) in
        let bytes = cond newer (put_slot key_size table w.slot (written (entry_in w))) table in
        Became table (unless_refused o (slots key_size table) new) (unless_refused o table bytes)
    after-newer (Some r) newer e = same
    after-newer None false e = same
    after-newer None true e =
        let g = (good-call table m out_len).0 e in
        replaced g.whole (decode_write key_size m).slot _ g.good.slot-there (written-there g.good.long)

    pub after_write_lem : Became table (slots_after_write table m out_len) (table_after_write table m out_len)
    unfolding slots_after_write table_after_write after_write
    after_write_lem = after-newer (write_call_refusal table m out_len) (is_newer (slots key_size table) (decode_write key_size m)) refl
