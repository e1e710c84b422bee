-- `lines::put::put_outcomes` meets its contract: the lines of the records so far stand at the output's start. Assumes nothing.
use Rattle.std.proofs.Common.{rules, arith, length-append, ◌∙◌}
use Rattle.lines.proofs.RecordLines.{listed-none, listed-more, listed-all}
use Rattle.lines.proofs.put.put_outcomes.Goals as goal

pub loop-outcome-init : goal.loop-outcome-init
loop-outcome-init c =
    let whole = c.into_iter-outcome-iterator.ensures.into_iter_gives in
    (search rules, search rules, search rules, rw (whole, c.chunks_exact-outcome-items.ensures.rest) (listed-none _ _ _ c.requires.1))

pub loop-outcome-preserved : goal.loop-outcome-preserved
loop-outcome-preserved c =
    let step = c.in-Some.ensures.steps.1 in
    let i = c.loop-outcome.invariant in
    let put = c.put_line-at.ensures in (
      search rules,
      search rules,
      search rules,
      rw length-append
          (listed-more _ _ _ c.requires.1 i.3 _ _ step.0 (step.1 ∙ i.2) c.requires.2 c.outcome_line.ensures put.output put.end put.short),
    )

pub returns-clause-lines : goal.returns-clause-lines
returns-clause-lines c =
    let i = c.loop-outcome.invariant in
    let step = c.in-None.ensures.steps in
    listed-all _ _ _ c.requires.1 i.3 (omega (arith, step.1.0, i.2))
