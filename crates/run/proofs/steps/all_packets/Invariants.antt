-- `run::steps::all_packets` meets its contract: the first i packets were run. Assumes nothing.
use Rattle.totals.specs.Sums.{as_totals}
use Rattle.run.proofs.StepLaws.{SoFar}
use Rattle.run.proofs.steps.all_packets.Given as goal

abbrev pub invariant-loop-i : goal.invariant-loop-i
invariant-loop-i l =
    SoFar l.policy l.trace l.i l.initial.table l.initial.keeper l.initial.out (as_totals l.initial.sums)
    l.table l.keeper l.out (as_totals l.sums)
