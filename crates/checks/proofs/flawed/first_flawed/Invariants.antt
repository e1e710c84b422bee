-- `checks::flawed::first_flawed` meets its contract: no record before the place has a flaw. Assumes nothing.
use mathlib.Core.Path.{◌≡◌}
use Rattle.std.specs.Slice.Iter.{chunks_exact_rest, chunks_exact_size}
use Rattle.std.specs.Iterator.Adapters.{enumerate_source, enumerate_count}
use Rattle.checks.proofs.FlawedLaws.{Unflawed}
use Rattle.checks.proofs.flawed.first_flawed.Given as goal

abbrev pub invariant-loop-place : goal.invariant-loop-place
invariant-loop-place g l =
    let left = enumerate_source l.place-iterator in
    (goal.iterator-loop-place g).can_next l.place-iterator × (goal.iterator-loop-place g).is_finite l.place-iterator
    × (chunks_exact_size left ≡ g.R.Record.SIZE)
    × Unflawed g.R.Record.flaw_of g.R.Record.SIZE l.records (enumerate_count l.place-iterator) (chunks_exact_rest left)
