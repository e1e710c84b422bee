-- `policy::record::rule_record` meets its contract: a record that is shown is one of the policy, whose part is lent. Assumes nothing.
use native.Mathlib.Omega.{arith}
use native.Mathlib.Nat.{add-sub_cancel_left}
use Rattle.policy.specs.RecordAnswers.{shown_record}
use Rattle.policy.proofs.RecordShown.{record-refused, record-shown, shown-below}
use Rattle.policy.proofs.record.rule_record.Goals as goal

pub overflow_mul-at : goal.overflow_mul-at
overflow_mul-at c = omega (arith, shown-below _ _ (record-shown _ _ c.in-Ok.ensures))

pub overflow_add-result : goal.overflow_add-result
overflow_add-result c = omega (arith, shown-below _ _ (record-shown _ _ c.in-Ok.ensures))

pub slice_bounds-result-end-in-Ok : goal.slice_bounds-result-end-in-Ok
slice_bounds-result-end-in-Ok c = omega (arith, shown-below _ _ (record-shown _ _ c.in-Ok.ensures))

pub returns-in-Err : goal.returns-in-Err
unfolding shown_record
returns-in-Err c = rw (record-refused _ _ _ c.in-Err.ensures)

pub returns-in-Ok : goal.returns-in-Ok
unfolding shown_record
returns-in-Ok c = rw (record-shown _ _ c.in-Ok.ensures, add-sub_cancel_left)
