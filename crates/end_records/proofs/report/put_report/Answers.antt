-- `end_records::report::put_report` meets its contract: the hits follow the head. Assumes nothing.
use mathlib.Core.Path.{◌≡◌, refl, ◌∙◌}
use mathlib.Core.List.{[], ◌∷◌, ◌++◌}
use native.Mathlib.Omega.{arith}
use Rattle.buffers.specs.BigEndian.{to_be}
use Rattle.buffers.specs.Parts.{splice}
use Rattle.buffers.proofs.BigEndianLaws.{high-first}
use Rattle.buffers.proofs.PartLaws.{splice-next}
use Rattle.records.specs.Layout.{report_hits, is_report}
use Rattle.end_records.specs.Reports.{encode_report}
use Rattle.end_records.proofs.report.put_report.Goals as goal

pub returns : goal.returns
unfolding encode_report
returns c =
    let a = c.args in
    let x = a.x in
    let head = (is_report ∷ 0 ∷ []) ++ (to_be 2 x.slot ++ to_be 4 x.sequence) in
    let hits : c.to_be_bytes-hits.result ≡ to_be 4 x.hits = c.to_be_bytes-hits.ensures ∙ high-first 4 x.hits in
    let e : c.put_bytes-2.new.s ≡ splice report_hits (to_be 4 x.hits) (splice 0 head a.out.now) = cc in
    e ∙ splice-next 0 report_hits head (to_be 4 x.hits) a.out.now refl (omega arith)
