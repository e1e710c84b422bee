-- `wunnagresk::table_calls::wg_lookup` meets its contract: the inner call's answer as numbers, its buffers as they are. Assumes nothing.
use mathlib.Core.Path.{ap, ◌∙◌}
use Rattle.c_answers.specs.Answers.{lookup_for_c}
use Rattle.wunnagresk.proofs.table_calls.wg_lookup.Goals as goal

pub returns : goal.returns
returns c =
    let k = c.lookup.ensures in
    record { answer = c.into.ensures ∙ ap lookup_for_c k.answer; table-after = k.table-after; out-after = k.out-after }
