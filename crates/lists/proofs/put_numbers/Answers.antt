-- `lists::put_numbers` meets its contract: the first i numbers are written. Assumes nothing.
use native.Mathlib.Omega.{arith}
use Rattle.lists.proofs.ByteLaws.{written_none, written-more}
use Rattle.lists.proofs.put_numbers.Goals as goal

pub loop-i-init : goal.loop-i-init
loop-i-init c = written_none _ _

pub loop-i-preserved : goal.loop-i-preserved
loop-i-preserved c =
    written-more _ _ (omega arith) (omega arith) c.loop-i.invariant c.put_be16.ensures
