-- `ternary::overlap_rows` meets its contract: the bytes are taken four by four, and none parts the two patterns. Assumes nothing.
use borrow.Author.Rules.{rules}
use borrow.Author.Tests.{tests}
use mathlib.Core.Path.{◌≡◌}
use Rattle.std.proofs.lemmas.Iterator.{YieldsList-from_slice, YieldsList-from_zip, cases_from_all}
use Rattle.ternary.proofs.ByteLaws.{bytes_of}
use Rattle.ternary.proofs.PatternBytes.{parted_of, overlap-fours}
use Rattle.ternary.proofs.overlap_rows.Goals as goal

pub returns : goal.returns
returns c =
    let a = c.args in
    let r = c.requires in
    overlap-fours a.value.now a.mask.now a.value2.now a.mask2.now (bytes_of _ c.type_inv.value) (bytes_of _ c.type_inv.value2)
    r.0 r.1 r.2 c.all.result
    (cases_from_all c.all.new.self _ c.all.result (λ t. parted_of t ≡ 0) (λ t. parted_of t ≡ 0 → ⊥) c.all.ensures.ran
    (YieldsList-from_zip (YieldsList-from_zip (YieldsList-from_slice a.value.now cc) (YieldsList-from_slice a.mask.now cc))
    (YieldsList-from_zip (YieldsList-from_slice a.value2.now cc) (YieldsList-from_slice a.mask2.now cc)))
    (λ x q k. search (rules, tests)) (λ x q k. search (rules, tests)))
