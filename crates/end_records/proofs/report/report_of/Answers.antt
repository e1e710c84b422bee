-- `end_records::report::report_of` meets its contract: each field is what its reader ensures. Assumes nothing.
use Rattle.end_records.specs.Reports.{decode_report}
use Rattle.end_records.proofs.report.report_of.Goals as goal

pub returns : goal.returns
unfolding decode_report
returns c = cc
