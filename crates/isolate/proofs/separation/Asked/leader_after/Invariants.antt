-- `isolate::separation::Asked::leader_after` meets its contract: the positions of the byte below q are seen. Assumes nothing.
use Prim.Native.Nat.{◌+◌, ◌*◌}
use Rattle.isolate.specs.Asked.{separated_for}
use Rattle.isolate.specs.Leads.{Leads}
use Rattle.isolate.proofs.separation.Asked.leader_after.Given as goal

abbrev pub invariant-loop-q : goal.invariant-loop-q
invariant-loop-q l = Leads (separated_for l.self l.standing.items) (l.b * 8 + l.q) l.leader.position l.leader.count
