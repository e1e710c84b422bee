-- `slots::choose::largest_sequence` meets its contract: the largest of the first i sequences is kept. Assumes nothing.
use Rattle.slots.proofs.ChooseLaws.{MostSoFar}
use Rattle.slots.proofs.choose.largest_sequence.Given as goal

abbrev pub invariant-loop-i : goal.invariant-loop-i
invariant-loop-i l = MostSoFar l.keeper l.i l.most
