-- `isolate::separation::Asked::left` meets its contract: those of the first items that are not separated. Assumes nothing.
use native.Mathlib.Omega.{arith}
use mathlib.Core.Path.{refl, sym, ap, ◌∙◌}
use mathlib.Core.Bool.{Bool, not}
use Prim.Native.Nat.{ℕ, ◌<◌}
use lib.ListN.{length}
use Rattle.model.specs.Below.{keep}
use Rattle.isolate.specs.Asked.{separates_for}
use Rattle.isolate.proofs.StandingLaws.{kept, passed}
use Rattle.isolate.proofs.separation.Asked.left.Goals as goal
use Rattle.isolate.proofs.separation.Asked.left.Goals.{then-not-separates, else-not-separates}

pub loop-d-init : goal.loop-d-init
unfolding keep
loop-d-init c = rw c.new-left.ensures (omega arith, refl)

pub loop-d-preserved : goal.loop-d-preserved
loop-d-preserved c =
    let a = c.args in
    let stays : ℕ → Bool = λ e. not (separates_for a.self.now a.p e) in
    let items = c.as_slice-d-items.ensures.value in
    let below : c.loop-d.d-index < length a.standing.now.items = rw items at c.loop-d-test.true in
    let test = rw (c.from.ensures, items) at c.separates.ensures in
    let is = c.loop-d.invariant in
    elim c.if-not-separates.branch [
      | then-not-separates w ↦
          rw w.left-is (
            omega (arith, w.push.ensures.len, is.0),
            rw (w.push.ensures.items, items, is.1) (kept stays _ _ below (ap not (sym test ∙ w.if-not-separates.true))),
          )
      | else-not-separates w ↦
          rw w.left-is (
            omega (arith, is.0),
            is.1 ∙ passed stays _ _ below (ap not (sym test ∙ w.if-not-separates.false)),
          )
    ]
