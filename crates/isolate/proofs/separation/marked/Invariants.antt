-- `isolate::separation::marked` meets its contract: n of the first bytes have the bit. Assumes nothing.
use mathlib.Core.Path.{◌≡◌}
use Prim.Native.Nat.{◌≤◌}
use lib.ListN.{length, take}
use Rattle.model.specs.Below.{keep}
use Rattle.isolate.specs.Columns.{bit_set}
use Rattle.isolate.proofs.separation.marked.Given as goal

abbrev pub invariant-loop-bits : goal.invariant-loop-bits
invariant-loop-bits l = (l.n ≤ l.bits-index) × (l.n ≡ length (keep (bit_set l.q) (take l.bits-index l.column)))
