-- `miss::decision::placed_outcome` meets its contract: 2 where the slot is empty, else 3. Assumes nothing.
use borrow.Author.Rules.{rules}
use Rattle.miss.proofs.DecisionLaws.{placed-empty, placed-over}
use Rattle.miss.proofs.decision.entry_outcome.Goals as goal

pub returns-then-old-eq0 : goal.returns-then-old-eq0
returns-then-old-eq0 c = placed-empty _ (search rules) c.slot_at-old.ensures c.if-old-eq0.true

pub returns : goal.returns
returns c = placed-over _ (search rules) c.slot_at-old.ensures c.if-old-eq0.false c.unless_nothing.ensures
