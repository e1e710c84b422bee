-- `ternary::matches_row` meets its contract: no byte below i refuses. Assumes nothing.
use mathlib.Core.Path.{◌≡◌}
use Rattle.model.proofs.BelowLaws.{Passed}
use Rattle.ternary.proofs.PatternBytes.{refused_in}
use Rattle.ternary.proofs.matches_row.Given as goal

abbrev pub invariant-loop-i : goal.invariant-loop-i
invariant-loop-i l = Passed (λ k. refused_in l.value l.mask l.key k ≡ 0) l.i
