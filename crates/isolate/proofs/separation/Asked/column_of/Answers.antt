-- `isolate::separation::Asked::column_of` meets its contract: the bytes have the bits of what is separated of the first items. Assumes nothing.
use native.Mathlib.Omega.{arith}
use Prim.Native.Nat.{◌<◌}
use lib.ListN.{length}
use Rattle.isolate.proofs.SeparateLaws.{separates-here}
use Rattle.isolate.proofs.ColumnLaws.{marks-none, marks-more, marks-same}
use Rattle.isolate.proofs.separation.Asked.column_of.Goals as goal
use Rattle.isolate.proofs.separation.Asked.column_of.Goals.{then-bits-ne0, else-bits-ne0}

pub loop-d-init : goal.loop-d-init
loop-d-init c = rw c.new-column.ensures (omega arith, marks-none _ _)

pub loop-d-preserved : goal.loop-d-preserved
loop-d-preserved c =
    let a = c.args in
    let items = c.as_slice-d-items.ensures.value in
    let below : c.loop-d.d-index < length a.standing.now.items = rw items at c.loop-d-test.true in
    let bits = rw (c.from.ensures, items) at c.separating-bits.ensures in
    let is = c.loop-d.invariant in
    elim c.if-bits-ne0.branch [
      | then-bits-ne0 w ↦
          rw w.column-is (
            omega (arith, w.push.ensures.len, is.0),
            rw w.push.ensures.items (marks-more _ _ _ _ below _ is.1 _ (separates-here _ _ _ _ _ _ bits)),
          )
      | else-bits-ne0 w ↦
          rw w.column-is (omega arith, marks-same _ _ _ _ below _ is.1 _ (separates-here _ _ _ _ _ _ bits) w.if-bits-ne0.false)
    ]
