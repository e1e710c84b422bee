-- `run::steps::all_packets` meets its contract: the first i packets were run. Assumes nothing.
use borrow.Author.Rules.{rules}
use Rattle.run.proofs.StepLaws.{far_none, far-ready, far-more, far-all}
use Rattle.run.proofs.steps.all_packets.Goals as goal

pub loop-i-init : goal.loop-i-init
loop-i-init c = far_none _ _ _ _ _ _

pub step-sums-requires : goal.step-sums-requires
step-sums-requires c =
    let p = c.requires in
    let q = far-ready c.loop-i.invariant p.0 p.1 in
    (q.0, c.loop-i-test.true, q.1)

pub loop-i-preserved : goal.loop-i-preserved
loop-i-preserved c =
    let p = c.requires in
    far-more c.loop-i.invariant c.loop-i-test.true p.0.room c.step-sums.ensures (search rules) (search rules) (search rules)

pub shape_of-table : goal.shape_of-table
shape_of-table c = c.loop-i.invariant.table-long

pub shape_of-keeper : goal.shape_of-keeper
shape_of-keeper c = c.loop-i.invariant.keeper-long

pub shape_of-out : goal.shape_of-out
shape_of-out c = c.loop-i.invariant.out-long

pub returns : goal.returns
returns c = far-all c.loop-i.invariant c.loop-i-test.false
