-- `c_answers::part_for_c::record_numbers` meets its contract: a record that is shown lies in the policy. Assumes nothing.
use mathlib.Core.Path.{sym}
use native.Mathlib.Omega.{arith}
use Rattle.policy.proofs.RecordShown.{record-shown, shown-below}
use Rattle.c_answers.proofs.part.record_for_c.Goals as goal

pub overflow_mul-result : goal.overflow_mul-result
overflow_mul-result c = omega (arith, shown-below _ _ (record-shown _ _ (c.in-Ok.ensures)))

pub returns-in-Err : goal.returns-in-Err
returns-in-Err c = rw (sym c.in-Err.ensures, c.number.ensures, c.place.ensures)

pub returns-in-Ok : goal.returns-in-Ok
returns-in-Ok c = rw (sym c.in-Ok.ensures)
