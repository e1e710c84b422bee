-- A buffer of an end's slots: how many it holds, and what one of whole slots is. Assumes nothing.
use Rattle.std.specs.Prelude.{ℕ, ◌/◌, ◌*◌, ◌≤◌, List, length, ◌≡◌}
use Rattle.records.specs.Layout.{slot_size, most_slots}
use Rattle.ternary.specs.Sizes.{key_size}

-- how many slots a buffer holds
abbrev pub slot_count : ℕ → List ℕ → ℕ
slot_count w bs = length bs / slot_size w

-- what a buffer is that is not refused: 1 to 256 whole slots
pub record WholeSlots (bs : List ℕ) : Type 0 where
  pub whole : length bs ≡ slot_size key_size * slot_count key_size bs
  pub some-there : 1 ≤ slot_count key_size bs
  pub few-there : slot_count key_size bs ≤ most_slots
