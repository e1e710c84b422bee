-- `table::write` meets its contract: a write that is not refused is stored, and its slot reported. Assumes nothing.
use mathlib.Core.Path.{ap}
use native.Mathlib.Omega.{arith}
use Rattle.std.proofs.lemmas.Result.{err_from_is_err_and}
use Rattle.ends.specs.Records.{Write}
use Rattle.end_records.specs.SlotStructs.{as_slot}
use Rattle.end_records.specs.MessageStructs.{as_write}
use Rattle.table.proofs.WriteLaws.{taken-good, received-refused, received-taken}
use Rattle.table.proofs.write.Goals as goal

pub returns-in_err-check_write : goal.returns-in_err-check_write
returns-in_err-check_write c =
    let p = err_from_is_err_and c.from_residual.result c.from_residual.ensures.1 in
    rw (p.1, p.2) (received-refused _ _ _ _ c.in_err-check_write.ensures)

pub write_of-w-requires : goal.write_of-w-requires
write_of-w-requires c = (taken-good _ _ _ c.in_ok-check_write.ensures).good.long

pub store_newer-stored-requires : goal.store_newer-stored-requires
store_newer-stored-requires c =
    let e = ap (λ (w : Write). w.slot) c.write_of-w.ensures in
    omega (arith, e, (taken-good _ _ _ c.in_ok-check_write.ensures).good.slot-there)

pub put_report-requires : goal.put_report-requires
put_report-requires c = (taken-good _ _ _ c.in_ok-check_write.ensures).fits

pub returns : goal.returns
returns c =
    received-taken _ _ _ (as_write c.write_of-w.result) (as_slot c.store_newer-stored.result) _ _ c.in_ok-check_write.ensures
    c.write_of-w.ensures c.store_newer-stored.ensures c.put_report.ensures
