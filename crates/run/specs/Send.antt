-- A write goes to the table and its report to the keeper, over the buffers of the two ends. Assumes nothing.
use Rattle.std.specs.Prelude.{List, ℕ}
use Rattle.ends.specs.Records.{Write}
use Rattle.ends.specs.Ends.{write_refusal}
use Rattle.ends.specs.Trace.{Ends, written_to}
use Rattle.ternary.specs.Sizes.{key_size, positions}
use Rattle.end_records.specs.Slots.{slots}
use Rattle.records.specs.SlotBuffers.{WholeSlots}

-- the two ends that the buffers hold
abbrev pub ends_in : List ℕ → List ℕ → Ends
ends_in table keeper = record { keeper = slots key_size keeper; table = slots key_size table }

-- neither end's buffer is refused
pub record WholeEnds (table keeper : List ℕ) : Type 0 where
  pub table-whole : WholeSlots table
  pub keeper-whole : WholeSlots keeper

-- a write goes to the table, and its report to the keeper
abbrev pub sent_ends : List ℕ → List ℕ → Write → Ends
sent_ends table keeper x =
    written_to (slots key_size keeper) (slots key_size table) x (write_refusal positions (slots key_size table) x)
