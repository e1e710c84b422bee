-- `wunnagresk::policy_calls::wg_check` meets its contract: the inner call's answer as numbers. Assumes nothing.
use mathlib.Core.Path.{ap, ◌∙◌}
use Rattle.c_answers.specs.Answers.{count_for_c}
use Rattle.wunnagresk.proofs.policy_calls.wg_check.Goals as goal

pub returns : goal.returns
returns c = c.into.ensures ∙ ap count_for_c c.check.ensures
