-- `wunnagresk::run_calls::wg_run` meets its contract: the run's answer as numbers, its totals and buffers as they are. Assumes nothing.
use mathlib.Core.Path.{◌≡◌, ap, ◌∙◌}
use Rattle.c_answers.specs.declared.structs.WgCount.{WgCount}
use Rattle.c_answers.specs.RunCalls.{RunResultForC, run_for_c}
use Rattle.wunnagresk.proofs.run_calls.wg_run.Goals as goal

-- what C is told, with these numbers
with-answer : {s : RunResultForC} {n : WgCount} → n ≡ s.answer
    → record { answer = n; totals = s.totals; table = s.table; keeper = s.keeper; out = s.out } ≡ s
with-answer {s} e i = record { answer = e i; totals = s.totals; table = s.table; keeper = s.keeper; out = s.out }

pub returns : goal.returns
returns c = with-answer c.into.ensures ∙ ap run_for_c c.run-ran.ensures.whole
