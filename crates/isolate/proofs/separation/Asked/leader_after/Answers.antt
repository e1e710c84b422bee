-- `isolate::separation::Asked::leader_after` meets its contract: the positions of the byte below q are seen. Assumes nothing.
use native.Mathlib.Omega.{arith}
use mathlib.Core.Path.{◌≡◌, ◌∙◌}
use Prim.Native.Nat.{◌+◌, ◌*◌}
use Rattle.isolate.proofs.RoundsLaws.{leads-taken, leads-kept}
use Rattle.isolate.proofs.separation.Asked.leader_after.Goals as goal
use Rattle.isolate.proofs.separation.Asked.leader_after.Goals.{then-leader-count, else-leader-count}

pub loop-q-preserved : goal.loop-q-preserved
loop-q-preserved c =
    let b = c.args.b in
    let q = c.loop-q.q in
    let step : b * 8 + (q + 1) ≡ b * 8 + q + 1 = omega arith in
    let count = rw c.as_slice.ensures.value at c.marked-count.ensures ∙ c.column_of-column.ensures.each q c.loop-q-test.true in
    elim c.if-leader-count.branch [
      | then-leader-count w ↦
          rw (step, w.leader-is) (leads-taken _ _ _ _ _ c.loop-q.invariant count w.if-leader-count.true)
      | else-leader-count w ↦
          rw (step, w.leader-is) (leads-kept _ _ _ _ _ c.loop-q.invariant count w.if-leader-count.false)
    ]
