-- `keeper::reports::check_slot` meets its contract: at each `return` the tests that led there say which refusal it is. Assumes nothing.
use mathlib.Core.Path.{refl}
use Rattle.keeper.proofs.ReportLaws.{no_slot, no-sequence, too-new, in-time}
use Rattle.keeper.proofs.reports.check_slot.Goals as goal

pub returns-then-count-i : goal.returns-then-count-i
returns-then-count-i c = no_slot _ _ c.from-i.ensures (rw c.requires at c.if-count-i.true) refl

pub returns-then-x-eq0 : goal.returns-then-x-eq0
returns-then-x-eq0 c =
    no-sequence _ _ c.from-i.ensures (rw c.requires at c.if-count-i.false) c.if-x-eq0.true refl

pub returns-then-sequence_at-x : goal.returns-then-sequence_at-x
returns-then-sequence_at-x c =
    too-new _ _ c.from-i.ensures (rw c.requires at c.if-count-i.false) c.sequence_at.ensures c.if-x-eq0.false c.if-sequence_at-x.true refl

pub returns : goal.returns
returns c =
    in-time _ _ c.from-i.ensures (rw c.requires at c.if-count-i.false) c.sequence_at.ensures c.if-x-eq0.false c.if-sequence_at-x.false refl
