-- An entry goes into its slot. Assumes nothing.
use Rattle.std.specs.Prelude.{◌≡◌, List, ℕ}
use Rattle.ends.specs.Records.{Slot, Write, entry_in, written}
use Rattle.ternary.specs.Sizes.{key_size}
use Rattle.end_records.specs.Slots.{SlotPut}

-- what it is to put a write's entry into its slot, which then is x
pub record EntryPut (end : List ℕ) (w : Write) (x : Slot) (after : List ℕ) : Type 0 where
  pub slot : x ≡ written (entry_in w)
  pub put : SlotPut key_size end w.slot x after
