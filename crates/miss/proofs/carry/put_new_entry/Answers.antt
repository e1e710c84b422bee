-- `miss::carry::place_entry` meets its contract: the slot is written unless the write is given again. Assumes nothing.
use Rattle.miss.proofs.CarryLaws.{entry-placed, entry-left}
use Rattle.miss.proofs.carry.put_new_entry.Goals as goal

pub returns-then-outcome-ne-AGAIN : goal.returns-then-outcome-ne-AGAIN
returns-then-outcome-ne-AGAIN c =
    entry-placed _ _ _ c.requires.1 c.if-outcome-ne-AGAIN.true c.put_entry.ensures

pub returns-else-outcome-ne-AGAIN : goal.returns-else-outcome-ne-AGAIN
returns-else-outcome-ne-AGAIN c = entry-left _ _ _ c.requires.1 c.if-outcome-ne-AGAIN.false
