-- One hit more in a slot of the table. Assumes nothing.
use Rattle.std.specs.Prelude.{◌≡◌, List, ℕ}
use Rattle.ends.specs.Records.{Slot}
use Rattle.ends.specs.Ends.{counted}
use Rattle.ternary.specs.Sizes.{key_size}
use Rattle.end_records.specs.Slots.{slot_in, SlotPut}

-- a hit counted in the i-th slot, which then is x
pub record Counted (table : List ℕ) (i : ℕ) (x : Slot) (after : List ℕ) : Type 0 where
  pub slot : x ≡ counted (slot_in key_size table i)
  pub put : SlotPut key_size table i x after
