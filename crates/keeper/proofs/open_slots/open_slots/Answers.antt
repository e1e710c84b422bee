-- `keeper::open_slots::open_slots` meets its contract: the open slots below i are listed. Assumes nothing.
use borrow.Author.Rules.{rules}
use mathlib.Core.Path.{◌∙◌}
use native.Mathlib.Omega.{arith}
use Rattle.model.specs.Below.{listed}
use Rattle.keeper.proofs.OpenLaws.{open-few, open-passed, open-taken, open_done}
use Rattle.keeper.proofs.open_slots.open_slots.Goals as goal
use Rattle.keeper.proofs.open_slots.open_slots.Goals.{then-is_open, else-is_open}

pub loop-i-init : goal.loop-i-init
unfolding listed
loop-i-init c = c.new-list.ensures

pub push-requires : goal.push-requires
push-requires c = (search rules, omega (arith, open-few _ _ c.loop-i.invariant))

pub loop-i-preserved : goal.loop-i-preserved
loop-i-preserved c =
    let is = c.loop-i.invariant in
    elim c.if-is_open.branch [
      | then-is_open w ↦ rw w.list-is (w.push.ensures.items ∙ open-taken _ _ is c.is_open.ensures w.if-is_open.true)
      | else-is_open w ↦ rw w.list-is (open-passed _ _ is c.is_open.ensures w.if-is_open.false)
    ]

pub returns : goal.returns
returns c = open_done _ _ c.loop-i.invariant (omega arith)
