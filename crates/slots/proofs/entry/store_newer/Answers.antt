-- `slots::store::store` meets its contract: an entry of a greater sequence is put, and no other. Assumes nothing.
use native.Mathlib.Omega.{arith}
use Rattle.end_records.specs.SlotStructs.{as_slot}
use Rattle.slots.proofs.StoreLaws.{stored-kept, stored-new}
use Rattle.slots.proofs.entry.store_newer.Goals as goal

pub returns-then-w-old : goal.returns-then-w-old
returns-then-w-old c =
    stored-kept _ _ _ c.requires (rw (← c.from.ensures) c.slot_at-old.ensures) (omega (arith, c.if-w-old.true))

pub returns : goal.returns
returns c =
    stored-new _ _ (as_slot c.slot_at-old.result) _ _ c.requires (rw (← c.from.ensures) c.slot_at-old.ensures)
    (omega (arith, c.if-w-old.false)) c.put_entry.ensures
