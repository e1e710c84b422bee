-- `wunnagresk::keeper_calls::wg_open` meets its contract: the inner call's answer as numbers, its buffers as they are. Assumes nothing.
use mathlib.Core.Path.{ap, ◌∙◌}
use Rattle.c_answers.specs.Answers.{count_for_c}
use Rattle.wunnagresk.proofs.keeper_calls.wg_open.Goals as goal

pub returns : goal.returns
returns c =
    let k = c.open_list.ensures in
    record { answer = c.into.ensures ∙ ap count_for_c k.answer; out-after = k.out-after }
