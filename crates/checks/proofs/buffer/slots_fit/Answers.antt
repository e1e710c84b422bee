-- `checks::buffer::slots_fit` meets its contract: at each `return` the tests that led there decide. Assumes nothing.
use borrow.Author.Tests.{eq-eqb, ne_eqb, le-leb, lt-leb}
use Rattle.checks.specs.BufferRefusals.{slots_fit}
use Rattle.checks.proofs.buffer.slots_fit.Goals as goal

pub returns-then-s-ne0 : goal.returns-then-s-ne0
unfolding slots_fit
returns-then-s-ne0 c = rw (ne_eqb _ _ c.if-s-ne0.true)

pub returns-then-count-ge1 : goal.returns-then-count-ge1
unfolding slots_fit
returns-then-count-ge1 c = rw (eq-eqb _ _ c.if-s-ne0.false, le-leb 1 _ c.if-count-ge1.true)

pub returns-else-count-ge1 : goal.returns-else-count-ge1
unfolding slots_fit
returns-else-count-ge1 c = rw (eq-eqb _ _ c.if-s-ne0.false, lt-leb 1 _ c.if-count-ge1.false)
