-- `isolate::separation::Asked::column_of` meets its contract: the bytes have the bits of what is separated of the first items. Assumes nothing.
use Prim.Native.Nat.{◌≤◌}
use lib.ListN.{length, take}
use Rattle.isolate.specs.Asked.{separates_for}
use Rattle.isolate.specs.Columns.{Marks}
use Rattle.isolate.proofs.separation.Asked.column_of.Given as goal

abbrev pub invariant-loop-d : goal.invariant-loop-d
invariant-loop-d l = (length l.column.items ≤ l.d-index)
    × Marks (separates_for l.self) l.b (take l.d-index l.standing.items) l.column.items
