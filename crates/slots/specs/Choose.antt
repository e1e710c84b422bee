-- The slot for a new entry. Assumes nothing.
use Rattle.std.specs.Prelude.{List, ℕ, length, Option}
use Rattle.model.specs.Below.{first_below}
use Rattle.ends.specs.Records.{Slot, slot_at}
use Rattle.ends.specs.Ends.{is_empty}

-- the lowest empty slot
abbrev pub first_empty : List Slot → Option ℕ
first_empty k = first_below (λ i. is_empty (slot_at k i)) (length k)
