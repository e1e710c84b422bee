-- `isolate::separation::Asked::isolate_rule` meets its contract: a turn of the rounds is a round of the model. Assumes nothing.
use Prim.Native.Nat.{◌*◌, ◌-◌, ◌≤◌}
use lib.ListN.{length}
use Rattle.ternary.specs.Sizes.{key_size, positions}
use Rattle.isolate.specs.Asked.{rules_of, separated_for}
use Rattle.isolate.specs.Leads.{Leads}
use Rattle.isolate.proofs.RoundsLaws.{Going}
use Rattle.isolate.proofs.separation.Asked.isolate_rule.Given as goal

-- the positions of the bytes below b are seen
abbrev pub invariant-scan : goal.invariant-scan
invariant-scan l = (l.b ≤ key_size)
    × Leads (separated_for l.self l.standing.items) (l.b * 8) l.leader.position l.leader.count

abbrev pub decreases-scan : goal.decreases-scan
decreases-scan l = key_size - l.b

abbrev pub invariant-rounds : goal.invariant-rounds
invariant-rounds l = Going positions (rules_of l.self) l.self.key l.self.number (length l.initial.standing.items)
    l.pattern.value l.pattern.mask l.fixed l.standing.items

abbrev pub decreases-rounds : goal.decreases-rounds
decreases-rounds l = length l.standing.items
