-- `miss::decision::write_again` meets its contract: the write has the slot's entry. Assumes nothing.
use borrow.Author.Rules.{rules}
use Rattle.miss.proofs.DecisionLaws.{again-decided}
use Rattle.miss.proofs.decision.write_again.Goals as goal

pub returns : goal.returns
returns c = again-decided _ (search rules) c.slot_at-slot.ensures c.requires.1 c.unless_nothing.ensures
