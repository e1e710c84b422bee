-- `checks::flawed::first_flawed` meets its contract: no record before the place has a flaw. Assumes nothing.
use Rattle.std.proofs.Common.{rules, ◌∙◌, sym}
use Rattle.checks.proofs.FlawedLaws.{unflawed-none, unflawed-more, flawed-here, flawed-nowhere}
use Rattle.checks.proofs.flawed.first_flawed.Goals as goal

pub loop-place-init : goal.loop-place-init
loop-place-init g c =
    let gives = c.into_iter-place-iterator.ensures.into_iter_gives in
    let from = c.enumerate-place-items.ensures in (
      search rules,
      search rules,
      rw (gives, from.source) (c.chunks_exact.ensures.size ∙ c.SIZE.ensures),
      rw (gives, from.source, from.count, c.chunks_exact.ensures.rest) unflawed-none,
    )

pub returns-in-Some-flaw : goal.returns-in-Some-flaw
returns-in-Some-flaw g c =
    let step = c.in-Some.ensures.steps in
    let i = c.loop-place.invariant in
    rw step.1 (flawed-here i.3 _ _ step.0.1.0 (step.0.1.1 ∙ i.2) _ g.met.R.Record.some_bytes (sym c.in-Some-flaw.ensures))

pub loop-place-preserved : goal.loop-place-preserved
loop-place-preserved g c =
    let step = c.in-Some.ensures.steps in
    let i = c.loop-place.invariant in
    (search rules, search rules, step.0.0 ∙ i.2, rw step.2 (unflawed-more i.3 _ _ step.0.1.0 (step.0.1.1 ∙ i.2) (sym c.in_default.ensures)))

pub returns : goal.returns
returns g c =
    let step = c.in-None.ensures.steps in
    let i = c.loop-place.invariant in
    flawed-nowhere i.3 g.met.R.Record.some_bytes (rw i.2 at step.0.1.0)
