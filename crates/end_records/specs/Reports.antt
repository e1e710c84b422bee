-- Reports: what the table sends. Assumes nothing.
use Rattle.std.specs.Prelude.{ℕ, ◌^◌, ◌<◌, List, [], ◌∷◌, ◌++◌}
use Rattle.ends.specs.Records.{Report}
use Rattle.buffers.specs.BigEndian.{be, to_be}
use Rattle.buffers.specs.Parts.{part}
use Rattle.records.specs.Layout.{report_slot, report_sequence, report_hits, is_report}

-- what a report's bytes mean, whatever its kind and its zero byte are
unfoldable pub decode_report : List ℕ → Report
decode_report c = record { slot = be (part 2 report_slot c); sequence = be (part 4 report_sequence c); hits = be (part 4 report_hits c) }

unfoldable pub encode_report : Report → List ℕ
encode_report x = (is_report ∷ 0 ∷ []) ++ (to_be 2 x.slot ++ (to_be 4 x.sequence ++ to_be 4 x.hits))

-- each field is one that its bytes can hold
pub record ReportFits (x : Report) : Type 0 where
  pub slot-fits : x.slot < 2 ^ 16
  pub sequence-fits : x.sequence < 2 ^ 32
  pub hits-fits : x.hits < 2 ^ 32
