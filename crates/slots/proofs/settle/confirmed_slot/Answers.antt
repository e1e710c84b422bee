-- `slots::settle::confirmed_slot` meets its contract: the hits are the larger, the mark is 1, and the rest stays. Assumes nothing.
use Rattle.slots.proofs.settle.confirmed_slot.Goals as goal

pub returns : goal.returns
returns c = rw c.max.ensures
