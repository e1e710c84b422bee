-- `run::packet::one_packet` meets its contract: a hit is reported to the keeper, and a miss goes to it. Assumes nothing.
use borrow.Author.Rules.{rules}
use Rattle.ternary.proofs.ByteLaws.{bytes_of}
use mathlib.Core.Path.{◌≡◌}
use Prim.Native.Nat.{ℕ}
use native.Mathlib.Omega.{arith}
use Rattle.std.specs.Prelude.{Option, None, Some, Result, Ok, Err}
use Rattle.std.specs.Option.{option_flatten}
use Rattle.std.specs.Result.{result_ok}
use Rattle.checks.specs.declared.refusal.Refusal.{Refusal}
use Rattle.table.specs.declared.Hit.{Hit}
use Rattle.run.proofs.HitLaws.{packet-hit, packet-missed}
use Rattle.run.proofs.packet.one_packet.Goals as goal

-- what is a hit of the lookup, and what is none
hit : (r : Result (Option Hit) Refusal) (h : Hit) → Some h ≡ option_flatten (result_ok r) → r ≡ Ok (Some h)
hit (Ok None) h e = let z : ◌≡◌ {A = ℕ} 0 1 = cc in absurd (omega arith)
hit (Ok (Some x)) h e = cc
hit (Err q) h e = let z : ◌≡◌ {A = ℕ} 0 1 = cc in absurd (omega arith)

no-hit : (r : Result (Option Hit) Refusal) → None ≡ option_flatten (result_ok r) → (h : Hit) → r ≡ Ok (Some h) → ◌≡◌ {A = ℕ} 0 1
no-hit (Ok None) e h t = cc
no-hit (Ok (Some x)) e h t = cc
no-hit (Err q) e h t = cc

pub returns-in-Some : goal.returns-in-Some
returns-in-Some c =
    packet-hit c.requires (search rules) c.lookup.ensures c.unless_nothing.ensures (hit _ _ (rw c.ok.ensures.value at c.in-Some.ensures))
    (search rules) (bytes_of _ c.type_inv.table) c.report.ensures

pub returns : goal.returns
returns c =
    packet-missed c.requires (search rules) c.lookup.ensures (no-hit _ (rw c.ok.ensures.value at c.in_default.ensures)) c.missed.ensures
