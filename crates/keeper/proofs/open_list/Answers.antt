-- `keeper::open_list` meets its contract: at each way out, the tests that led there say which answer it is. Assumes nothing.
use mathlib.Core.Path.{refl, ◌∙◌}
use Rattle.std.proofs.lemmas.Result.{err_from_is_err_and}
use Rattle.checks.proofs.RefusalLaws.{answer-refused, answer-given}
use Rattle.keeper.proofs.OpenLaws.{few-slots, refused-slots, opened-list}
use Rattle.keeper.proofs.open_list.Goals as goal

pub returns-in_err-slot_count : goal.returns-in_err-slot_count
returns-in_err-slot_count c =
    let p = err_from_is_err_and c.from_residual.result c.from_residual.ensures.1 in
    rw (p.1, p.2) (refused-slots _ _ (answer-refused _ _ c.in_err-slot_count.ensures refl))

pub open_slots-list-requires : goal.open_slots-list-requires
open_slots-list-requires c = few-slots _ (answer-given _ _ c.in_ok-slot_count.ensures refl).0

pub returns : goal.returns
returns c =
    let fine = (answer-given _ _ c.in_ok-slot_count.ensures refl).0 in
    opened-list _ _ fine (c.as_slice.ensures.value ∙ c.open_slots-list.ensures) c.list_answer.ensures
