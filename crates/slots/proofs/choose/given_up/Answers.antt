-- `slots::choose::given_up` meets its contract: of the slots below i the one that is given up first is kept. Assumes nothing.
use native.Mathlib.Omega.{arith}
use Rattle.slots.proofs.ChooseLaws.{first_slot, first-kept, first_taken, first_done}
use Rattle.slots.proofs.choose.given_up.Goals as goal
use Rattle.slots.proofs.choose.given_up.Goals.{then-given_up_before, else-given_up_before}

pub loop-i-init : goal.loop-i-init
loop-i-init c = first_slot _

pub loop-i-preserved : goal.loop-i-preserved
loop-i-preserved c =
    let is = c.loop-i.invariant in
    let e = c.given_up_before.ensures in
    elim c.if-given_up_before.branch [
      | then-given_up_before w ↦ rw w.best-is (first_taken _ is e w.if-given_up_before.true)
      | else-given_up_before w ↦ rw w.best-is (first-kept _ is e w.if-given_up_before.false)
    ]

pub returns : goal.returns
returns c = let l = c.loop-i in first_done _ l.invariant (omega (arith, l.auto.i-end c.requires, c.loop-i-test.false))
