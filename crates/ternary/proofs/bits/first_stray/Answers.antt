-- `ternary::bits::first_stray` meets its contract: the first pair of bytes with a bit under a wildcard. Assumes nothing.
use borrow.Author.Rules.{rules}
use borrow.Author.Tests.{tests}
use mathlib.Core.Path.{◌≡◌}
use Rattle.std.proofs.lemmas.Iterator.{YieldsList-from_slice, YieldsList-from_zip, IsFirst-from_position}
use Rattle.ternary.proofs.ByteLaws.{bytes_of}
use Rattle.ternary.proofs.StrayLaws.{strays_of, first-pair}
use Rattle.ternary.proofs.bits.first_stray.Goals as goal

pub returns : goal.returns
returns c =
    let a = c.args in
    first-pair a.value.now a.mask.now (bytes_of _ c.type_inv.value) (bytes_of _ c.type_inv.mask) c.requires c.position.result
    (IsFirst-from_position c.position.new.self _ c.position.result (λ p. strays_of p ≡ 0 → ⊥) (λ p. strays_of p ≡ 0) c.position.ensures.ran
    (YieldsList-from_zip (YieldsList-from_slice a.value.now cc) (YieldsList-from_slice a.mask.now cc))
    (λ x q k. search (rules, tests)) (λ x q k. search (rules, tests)))
