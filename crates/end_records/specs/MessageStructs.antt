-- The code's structs as the model's records. Assumes nothing.
use Rattle.ends.specs.Records.{Write, Report}
use Rattle.end_records.specs.declared.write.Write.{Write as WriteStruct}
use Rattle.end_records.specs.declared.report.Report.{Report as ReportStruct}

abbrev pub as_write : WriteStruct → Write
as_write x = record { slot = x.slot; sequence = x.sequence; value = x.pattern.value; mask = x.pattern.mask; action = x.action; rule = x.rule }

abbrev pub as_report : ReportStruct → Report
as_report x = record { slot = x.slot; sequence = x.sequence; hits = x.hits }
