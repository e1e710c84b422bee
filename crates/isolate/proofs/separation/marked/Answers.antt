-- `isolate::separation::marked` meets its contract: n of the first bytes have the bit. Assumes nothing.
use native.Mathlib.Omega.{arith}
use mathlib.Core.Path.{sym, ◌∙◌}
use borrow.Author.Tests.{eq-eqb, ne_eqb}
use Rattle.model.specs.Below.{keep}
use Rattle.isolate.specs.Columns.{bit_set}
use Rattle.isolate.proofs.StandingLaws.{count_kept, count-passed}
use Rattle.isolate.proofs.SeparateLaws.{bit-taken}
use Rattle.isolate.proofs.separation.marked.Goals as goal
use Rattle.isolate.proofs.separation.marked.Goals.{then-bits-q-eq1, else-bits-q-eq1}

pub loop-bits-init : goal.loop-bits-init
unfolding keep
loop-bits-init c = omega arith

pub loop-bits-preserved : goal.loop-bits-preserved
loop-bits-preserved c =
    let f = bit_set c.args.q in
    let is = c.loop-bits.invariant in
    elim c.if-bits-q-eq1.branch [
      | then-bits-q-eq1 w ↦
          rw w.n-is (
            omega (arith, is.0),
            count_kept f _ _ c.loop-bits-test.true is.1 (sym (bit-taken c.args.q _) ∙ eq-eqb _ _ w.if-bits-q-eq1.true),
          )
      | else-bits-q-eq1 w ↦
          rw w.n-is (
            omega (arith, is.0),
            count-passed f _ _ c.loop-bits-test.true is.1 (sym (bit-taken c.args.q _) ∙ ne_eqb _ _ w.if-bits-q-eq1.false),
          )
    ]
