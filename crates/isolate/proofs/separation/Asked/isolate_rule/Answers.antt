-- `isolate::separation::Asked::isolate_rule` meets its contract: a turn of the rounds is a round of the model. Assumes nothing.
use mathlib.Core.Path.{◌≡◌, ◌∙◌}
use borrow.Author.Rules.{rules}
use Prim.Native.Nat.{ℕ, ◌+◌, ◌*◌, ◌<◌}
use native.Mathlib.Omega.{arith}
use mathlib.Core.List.{List}
use lib.ListN.{length}
use Rattle.model.specs.Policy.{Rule}
use Rattle.model.specs.Isolate.{separates, chosen}
use Rattle.ternary.specs.Sizes.{key_size, positions}
use Rattle.isolate.specs.Leads.{separated, Leads}
use Rattle.records.proofs.RuleLaws.{rule-count}
use Rattle.isolate.proofs.RoundsLaws.{going_start, going-under, going-stop, going_less, going_next, chosen-inside, leads-none}
use Rattle.isolate.proofs.separation.Asked.isolate_rule.Goals as goal

pub rounds-init : goal.rounds-init
rounds-init c = going_start _ _ _ _ _ _ c.requires.1 c.requires.0 c.rule_pattern-pattern.ensures

pub scan-init : goal.scan-init
scan-init c = (search rules, leads-none _)

pub leader_after-leader-requires : goal.leader_after-leader-requires
leader_after-leader-requires c = (
  omega (arith, c.scan.invariant.0, c.if-b-eq-KEY_SIZE.false),
  going-under _ _ _ _ _ _ _ _ _ c.rounds.invariant (rule-count key_size _),
  c.scan.invariant.1,
)

pub scan-preserved : goal.scan-preserved
scan-preserved c =
    let step : (c.scan.b + 1) * 8 ≡ c.scan.b * 8 + 8 = omega arith in
    (omega (arith, c.scan.invariant.0, c.if-b-eq-KEY_SIZE.false), rw step c.leader_after-leader.ensures)

-- once all positions are seen, the leader is the position that the model chooses
leads-all : (pol : List Rule) (key : List ℕ) (i b best most : ℕ) (xs : List ℕ) → Leads (separated pol key i xs) (b * 8) best most → b ≡ key_size
    → best ≡ chosen (separates pol key i) positions xs
unfolding chosen
leads-all pol key i b best most xs is e = rw e at is.first

pub fix_bit-pattern-requires : goal.fix_bit-pattern-requires
fix_bit-pattern-requires c = rw (leads-all _ _ _ _ _ _ _ c.scan.invariant.1 c.if-b-eq-KEY_SIZE.true) (chosen-inside _ _ _ (search rules))

pub left-standing-requires : goal.left-standing-requires
left-standing-requires c = (
  rw (leads-all _ _ _ _ _ _ _ c.scan.invariant.1 c.if-b-eq-KEY_SIZE.true) (chosen-inside _ _ _ (search rules)),
  going-under _ _ _ _ _ _ _ _ _ c.rounds.invariant (rule-count key_size _),
)

pub rounds-smaller : goal.rounds-smaller
rounds-smaller c =
    let some : 0 < length c.rounds.standing.items = search rules in
    going_less _ _ _ _ _ _ _ _ _ c.rounds.invariant (leads-all _ _ _ _ _ _ _ c.scan.invariant.1 c.if-b-eq-KEY_SIZE.true)
    c.left-standing.ensures some

pub rounds-preserved : goal.rounds-preserved
rounds-preserved c =
    let some : 0 < length c.rounds.standing.items = search rules in
    going_next _ _ _ _ _ _ _ _ _ c.rounds.invariant (leads-all _ _ _ _ _ _ _ c.scan.invariant.1 c.if-b-eq-KEY_SIZE.true)
    c.left-standing.ensures some c.fix_bit-pattern.ensures.value-put c.fix_bit-pattern.ensures.mask-put

-- none stands
pub returns : goal.returns
returns c =
    let none : length c.rounds.standing.items ≡ 0 = search rules in
    c.with_counts.ensures ∙ going-stop _ _ _ _ _ _ _ _ _ c.rounds.invariant none
