-- To store a write: what its slot is then, where the entry is put and where it is not. Assumes nothing.
use mathlib.Core.Path.{◌≡◌, sym, ◌∙◌}
use mathlib.Core.Bool.{true, false}
use mathlib.Core.List.{List}
use Prim.Native.Nat.{ℕ, ◌≤◌, ◌<◌}
use native.Mathlib.Omega.{arith}
use lib.ListN.{length}
use lib.Seq.{get_or-set_same}
use borrow.Author.Tests.{lt-ltb, le-ltb}
use Rattle.ends.specs.Records.{Slot, Write, slot_at, cleared, entry_in, written}
use Rattle.ends.specs.Ends.{is_newer, after_write}
use Rattle.ternary.specs.Sizes.{key_size}
use Rattle.end_records.specs.Slots.{slot_in, slots}
use Rattle.records.specs.SlotBuffers.{slot_count}
use Rattle.end_records.proofs.SlotLaws.{slot-count, slot-at}
use Rattle.slots.specs.Puts.{EntryPut}
use Rattle.slots.specs.Stores.{Stored}

module _ (table : List ℕ) (w : Write) (old : Slot) where
  -- the write's sequence is not greater than that of the slot, as it was read
  pub stored-kept : w.slot < slot_count key_size table → old ≡ slot_in key_size table w.slot → w.sequence ≤ old.sequence
      → Stored table w old table
  unfolding after_write
  stored-kept l e le =
      let there : old ≡ slot_at (slots key_size table) w.slot = e ∙ sym (slot-at key_size table w.slot l) in
      let same : is_newer (slots key_size table) w ≡ false = rw (← there) (le-ltb old.sequence w.sequence le) in
      record { slot = rw same there; table-after = rw same; meaning = rw same }

  -- it is greater
  pub stored-new : (new : Slot) (after : List ℕ) → w.slot < slot_count key_size table → old ≡ slot_in key_size table w.slot
      → old.sequence < w.sequence → EntryPut table w new after → Stored table w new after
  unfolding after_write
  stored-new new after l e lt p =
      let there : old ≡ slot_at (slots key_size table) w.slot = e ∙ sym (slot-at key_size table w.slot l) in
      let newer : is_newer (slots key_size table) w ≡ true = rw (← there) (lt-ltb old.sequence w.sequence lt) in
      let inside : w.slot < length (slots key_size table) = omega (arith, slot-count key_size table) in
      record {
        slot = rw newer (p.slot ∙ sym (get_or-set_same (slots key_size table) w.slot (written (entry_in w)) (cleared 0) inside));
        table-after = rw newer (rw p.slot at p.put.bytes);
        meaning = rw newer (rw p.slot at p.put.meaning);
      }
