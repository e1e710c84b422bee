-- `keeper::report` meets its contract: a report that is not refused is taken. Assumes nothing.
use mathlib.Core.Path.{ap}
use native.Mathlib.Omega.{arith}
use Rattle.std.proofs.lemmas.Result.{err_from_is_err_and}
use Rattle.ends.specs.Records.{Report}
use Rattle.keeper.proofs.ReportLaws.{accepted-of, reported-refused, reported-taken}
use Rattle.keeper.proofs.report.Goals as goal

pub returns-in_err-check_report : goal.returns-in_err-check_report
returns-in_err-check_report c =
    let p = err_from_is_err_and c.from_residual.result c.from_residual.ensures.1 in
    rw (p.1, p.2) (reported-refused _ _ c.check_report.ensures c.in_err-check_report.was)

pub report_of-requires : goal.report_of-requires
report_of-requires c = (accepted-of _ _ c.check_report.ensures c.in_ok-check_report.was).long

pub take_report-requires : goal.take_report-requires
take_report-requires c =
    let is = accepted-of _ _ c.check_report.ensures c.in_ok-check_report.was in
    omega (arith, is.inside, ap (λ (x : Report). x.slot) c.report_of.ensures)

pub returns : goal.returns
returns c =
    reported-taken _ _ (accepted-of _ _ c.check_report.ensures c.in_ok-check_report.was) c.report_of.ensures c.take_report.ensures
