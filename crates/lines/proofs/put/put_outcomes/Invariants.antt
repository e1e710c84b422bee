-- `lines::put::put_outcomes` meets its contract: the lines of the records so far stand at the output's start. Assumes nothing.
use mathlib.Core.Path.{◌≡◌}
use lib.ListN.{length}
use Rattle.std.specs.Slice.Iter.{chunks_exact_rest, chunks_exact_size}
use Rattle.records.specs.Layout.{outcome_size}
use Rattle.lines.proofs.RecordLines.{Listed}
use Rattle.lines.proofs.put.put_outcomes.Given as goal

abbrev pub invariant-loop-outcome : goal.invariant-loop-outcome
invariant-loop-outcome l =
    goal.iterator-loop-outcome.can_next l.outcome-iterator × goal.iterator-loop-outcome.is_finite l.outcome-iterator
    × (chunks_exact_size l.outcome-iterator ≡ outcome_size)
    × Listed l.n l.records l.initial.out (length l.yielded) (chunks_exact_rest l.outcome-iterator) l.out l.at
