-- `table::lookup` meets its contract: what was found says what is changed. Assumes nothing.
use native.Mathlib.Omega.{arith}
use Rattle.std.proofs.lemmas.Result.{err_from_is_err_and}
use Rattle.end_records.specs.SlotStructs.{as_slot}
use Rattle.table.proofs.LookupLaws.{hit-below, hit_few, hit-fits, looked-refused, looked-missed, looked-hit}
use Rattle.table.proofs.lookup.Goals as goal

pub returns-in_err-i : goal.returns-in_err-i
returns-in_err-i c =
    let p = err_from_is_err_and c.from_residual.result c.from_residual.ensures.1 in
    rw (p.1, p.2) (looked-refused _ _ _ _ c.in_err-i.ensures)

pub returns-in_default : goal.returns-in_default
returns-in_default c = looked-missed _ _ _ (rw c.in_default.is at c.in_ok-i.ensures)

pub count_hit-x-requires : goal.count_hit-x-requires
count_hit-x-requires c = hit-below _ _ _ _ (rw c.in-Some.is at c.in_ok-i.ensures)

pub overflow_cast-slot : goal.overflow_cast-slot
overflow_cast-slot c = omega (arith, hit_few _ _ _ _ (rw c.in-Some.is at c.in_ok-i.ensures))

pub put_report-requires : goal.put_report-requires
put_report-requires c = hit-fits _ _ _ _ (rw c.in-Some.is at c.in_ok-i.ensures)

pub returns : goal.returns
returns c =
    looked-hit _ _ _ _ (as_slot c.count_hit-x.result) _ _ (rw c.in-Some.is at c.in_ok-i.ensures) c.count_hit-x.ensures c.put_report.ensures
