-- `slots::choose::largest_sequence` meets its contract: the largest of the first i sequences is kept. Assumes nothing.
use native.Mathlib.Nat.{le_antisymm}
use Rattle.slots.proofs.ChooseLaws.{most-none, most-more, most-done}
use Rattle.slots.proofs.choose.largest_sequence.Goals as goal

pub loop-i-init : goal.loop-i-init
loop-i-init c = most-none _

pub loop-i-preserved : goal.loop-i-preserved
loop-i-preserved c =
    most-more _ c.loop-i.invariant c.loop-i-test.true c.sequence_at.ensures c.max-most.ensures

pub returns : goal.returns
returns c = let l = c.loop-i in most-done _ l.invariant (le_antisymm l.auto.i-end c.loop-i-test.false)
