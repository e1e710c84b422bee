-- `slots::find::slot_holds` meets its contract: the sequence and the rows are those of the slot. Assumes nothing.
use mathlib.Core.Path.{◌≡◌, refl, ap, ◌∙◌}
use Prim.Native.Nat.{◌+◌, ◌*◌}
use native.Mathlib.Omega.{arith}
use lib.ListN.{length}
use borrow.Author.Tests.{eq-eqb, ne_eqb}
use Rattle.model.specs.Pattern.{matches}
use Rattle.ends.specs.Ends.{holds}
use Rattle.buffers.proofs.PartLaws.{part_length}
use Rattle.ternary.specs.Sizes.{key_size, positions}
use Rattle.records.specs.Layout.{slot_value, slot_mask, slot_size}
use Rattle.end_records.proofs.InPlace.{value-in-place, mask-in-place}
use Rattle.slots.proofs.find.slot_holds.Goals as goal

pub returns-then-sequence_at-eq0 : goal.returns-then-sequence_at-eq0
unfolding holds
returns-then-sequence_at-eq0 c = rw (← c.sequence_at.ensures, eq-eqb _ _ c.if-sequence_at-eq0.true)

pub matches_row-requires : goal.matches_row-requires
matches_row-requires c =
    let a = c.args in
    let at = slot_size key_size * a.i + slot_value in
    let value : length c.rows_at.result.0.now ≡ key_size = rw c.rows_at.ensures.0 (part_length key_size at a.s.now (omega arith)) in
    let mask : length c.rows_at.result.1.now ≡ key_size = rw c.rows_at.ensures.1 (part_length key_size (at + key_size) a.s.now (omega arith)) in
    (omega (arith, value, mask), omega (arith, value, mask, c.requires.1))

pub returns : goal.returns
unfolding holds
returns c =
    let a = c.args in
    let lent = c.rows_at.result in
    let at = slot_size key_size * a.i + slot_value in
    let mask : at + key_size ≡ slot_size key_size * a.i + slot_mask key_size = omega arith in
    let long : length lent.0.now * 8 ≡ positions = rw (c.rows_at.ensures.0, part_length key_size at a.s.now (omega arith)) refl in
    rw (
      ← c.sequence_at.ensures,
      ne_eqb _ _ c.if-sequence_at-eq0.false,
      value-in-place key_size a.s.now a.i c.requires.0,
      mask-in-place key_size a.s.now a.i c.requires.0,
      ← c.rows_at.ensures.0,
      ← mask,
      ← c.rows_at.ensures.1,
    )
    (c.matches_row.ensures ∙ ap (λ n. matches n lent.0.now lent.1.now a.key.now) long)
