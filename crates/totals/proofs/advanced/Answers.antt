-- `totals::advanced` meets its contract: one packet, and one of each total that its outcome is of. Assumes nothing.
use Rattle.totals.proofs.SumLaws.{advanced-by}
use Rattle.totals.proofs.advanced.Goals as goal

pub returns : goal.returns
returns c =
    advanced-by _ _ c.one_of.ensures c.one_miss.ensures c.one_of-2.ensures c.one_of-3.ensures
