-- `wunnagresk::keeper_calls::wg_report` meets its contract: the inner call's answer as numbers, its buffers as they are. Assumes nothing.
use mathlib.Core.Path.{ap, ◌∙◌}
use Rattle.c_answers.specs.Answers.{done_for_c}
use Rattle.wunnagresk.proofs.keeper_calls.wg_report.Goals as goal

pub returns : goal.returns
returns c =
    let k = c.report.ensures in
    record { answer = c.into.ensures ∙ ap done_for_c k.answer; keeper-after = k.keeper-after }
