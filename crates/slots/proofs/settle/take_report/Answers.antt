-- `slots::settle::take_report` meets its contract: the slot is confirmed where the sequences are equal. Assumes nothing.
use borrow.Author.Rules.{rules}
use Rattle.slots.proofs.SettleLaws.{taken-current, taken-older}
use Rattle.slots.proofs.settle.take_report.Goals as goal

pub returns-then-x-old : goal.returns-then-x-old
returns-then-x-old c =
    taken-current _ _ c.from-i.ensures (search rules) c.slot_at-old.ensures c.if-x-old.true c.confirmed_slot.ensures
    c.put_slot.ensures

pub returns-else-x-old : goal.returns-else-x-old
returns-else-x-old c =
    taken-older _ _ c.from-i.ensures (search rules) c.slot_at-old.ensures c.if-x-old.false
