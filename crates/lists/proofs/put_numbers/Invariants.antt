-- `lists::put_numbers` meets its contract: the first i numbers are written. Assumes nothing.
use Rattle.lists.proofs.ByteLaws.{Written}
use Rattle.lists.proofs.put_numbers.Given as goal

abbrev pub invariant-loop-i : goal.invariant-loop-i
invariant-loop-i l = Written l.list l.initial.out l.i l.out
