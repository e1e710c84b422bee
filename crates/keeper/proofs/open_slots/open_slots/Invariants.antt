-- `keeper::open_slots::open_slots` meets its contract: the open slots below i are listed. Assumes nothing.
use mathlib.Core.Path.{◌≡◌}
use Rattle.model.specs.Below.{list_below}
use Rattle.ends.specs.Records.{slot_at}
use Rattle.ends.specs.Ends.{is_open}
use Rattle.ternary.specs.Sizes.{key_size}
use Rattle.end_records.specs.Slots.{slots}
use Rattle.keeper.proofs.open_slots.open_slots.Given as goal

abbrev pub invariant-loop-i : goal.invariant-loop-i
invariant-loop-i l = l.list.items ≡ list_below (λ i. is_open (slot_at (slots key_size l.keeper) i)) l.i
