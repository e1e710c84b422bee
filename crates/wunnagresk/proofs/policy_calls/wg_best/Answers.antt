-- `wunnagresk::policy_calls::wg_best` meets its contract: the inner call's answer as numbers. Assumes nothing.
use mathlib.Core.Path.{ap, ◌∙◌}
use Rattle.c_answers.specs.Answers.{best_for_c}
use Rattle.wunnagresk.proofs.policy_calls.wg_best.Goals as goal

pub returns : goal.returns
returns c = c.into.ensures ∙ ap best_for_c c.best.ensures
