-- A write's entry, stored in its slot. Assumes nothing.
use Rattle.std.specs.Prelude.{◌≡◌, cond, List, ℕ}
use Rattle.ends.specs.Records.{Slot, Write, slot_at, entry_in, written}
use Rattle.ends.specs.Ends.{is_newer, after_write}
use Rattle.ternary.specs.Sizes.{key_size}
use Rattle.end_records.specs.Slots.{slots, put_slot}

-- the table's bytes once a write is stored: those of its slot are replaced where the write is newer, and no other
abbrev pub stored_bytes : List ℕ → Write → List ℕ
stored_bytes table w = cond (is_newer (slots key_size table) w) (put_slot key_size table w.slot (written (entry_in w))) table

-- what it is to store a write, whose slot then is x
pub record Stored (table : List ℕ) (w : Write) (x : Slot) (after : List ℕ) : Type 0 where
  pub slot : x ≡ slot_at (after_write (slots key_size table) w) w.slot
  pub table-after : after ≡ stored_bytes table w
  pub meaning : slots key_size after ≡ after_write (slots key_size table) w
