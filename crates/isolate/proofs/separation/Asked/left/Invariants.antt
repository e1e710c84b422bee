-- `isolate::separation::Asked::left` meets its contract: those of the first items that are not separated. Assumes nothing.
use mathlib.Core.Path.{◌≡◌}
use mathlib.Core.Bool.{not}
use Prim.Native.Nat.{◌≤◌}
use lib.ListN.{length, take}
use Rattle.model.specs.Below.{keep}
use Rattle.isolate.specs.Asked.{separates_for}
use Rattle.isolate.proofs.separation.Asked.left.Given as goal

abbrev pub invariant-loop-d : goal.invariant-loop-d
invariant-loop-d l = (length l.left.items ≤ l.d-index)
    × (l.left.items ≡ keep (λ e. not (separates_for l.self l.p e)) (take l.d-index l.standing.items))
