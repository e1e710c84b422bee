-- `wunnagresk::policy_calls::wg_show` meets its contract: the inner call's answer as numbers. Assumes nothing.
use mathlib.Core.Path.{ap, ◌∙◌}
use Rattle.c_answers.specs.Parts.{show_for_c}
use Rattle.wunnagresk.proofs.policy_calls.wg_show.Goals as goal

pub returns : goal.returns
returns c = c.into.ensures ∙ ap show_for_c c.show_answer.ensures
