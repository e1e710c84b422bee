-- Laws of reports. Assumes nothing.
use Prim.Native.Nat.{ℕ}
use mathlib.Core.Path.{◌≡◌}
use mathlib.Core.List.{List}
use native.Mathlib.Omega.{arith}
use lib.ListN.{length, get_or}
use Rattle.model.specs.Bits.{Bytes}
use Rattle.ends.specs.Records.{Report}
use Rattle.buffers.proofs.BigEndianLaws.{be-to_be}
use Rattle.buffers.proofs.FieldLaws.{number-then, number-last, pair_then}
use Rattle.records.specs.Layout.{report_kind, report_zero, report_slot, report_sequence, report_hits, report_size, is_report}
use Rattle.end_records.specs.Reports.{decode_report, encode_report, ReportFits}

-- what was encoded is decoded
pub decode-encode-report : (x : Report) → ReportFits x → decode_report (encode_report x) ≡ x
unfolding decode_report encode_report
decode-encode-report x f =
    rw (be-to_be 2 x.slot f.slot-fits, be-to_be 4 x.sequence f.sequence-fits, be-to_be 4 x.hits f.hits-fits)

-- what was decoded is encoded, where the kind and the zero byte are as they must be
pub encode-decode-report : (c : List ℕ) → length c ≡ report_size → Bytes c → get_or c report_kind 0 ≡ is_report → get_or c report_zero 0 ≡ 0
    → encode_report (decode_report c) ≡ c
unfolding decode_report encode_report
encode-decode-report c l h k z =
    pair_then c report_kind k z (omega arith)
    (number-then c 2 report_slot h (omega arith)
    (number-then c 4 report_sequence h (omega arith)
    (number-last c 4 report_hits h (omega arith))))
