-- `keeper::open_slots::is_open` meets its contract: the sequence and the mark lie in the slot's bytes. Assumes nothing.
use borrow.Author.Tests.{ne_eqb}
use Rattle.ternary.specs.Sizes.{key_size}
use Rattle.end_records.proofs.InPlace.{settled-in-place}
use Rattle.keeper.proofs.open_slots.is_open.Goals as goal

pub returns-then-sequence_at-ne0 : goal.returns-then-sequence_at-ne0
returns-then-sequence_at-ne0 c =
    rw (
      ← c.sequence_at.ensures,
      ne_eqb _ _ c.if-sequence_at-ne0.true,
      settled-in-place key_size c.args.keeper.now c.args.i c.requires,
    )
