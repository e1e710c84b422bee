-- `checks::flaw::spare_flaw` meets its contract: the first byte of the part that is not zero. Assumes nothing.
use borrow.Author.Rules.{rules}
use borrow.Author.Tests.{tests}
use mathlib.Core.Path.{◌≡◌}
use native.Mathlib.Omega.{arith}
use Prim.Native.Nat.{◌-◌}
use Rattle.std.proofs.lemmas.Iterator.{YieldsList-from_slice, IsFirst-from_position}
use Rattle.checks.proofs.FlawLaws.{first-spare}
use Rattle.checks.proofs.flaw.spare_flaw.Goals as goal

pub returns : goal.returns
returns c =
    let a = c.args in
    let found = first-spare a.r.now (a.end - a.at) a.at (omega arith) c.position.result
    (IsFirst-from_position c.position.new.self _ c.position.result (λ x. x ≡ 0 → ⊥) (λ x. x ≡ 0) c.position.ensures.ran
    (YieldsList-from_slice _ cc)
    (λ x q k. search (rules, tests)) (λ x q k. search (rules, tests))) in
    rw found (search rules)
