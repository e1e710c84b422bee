-- `records::rule::rule_matches` meets its contract: the rows that are lent are those of the rule. Assumes nothing.
use mathlib.Core.Path.{◌≡◌, refl, ap, ◌∙◌}
use Prim.Native.Nat.{◌+◌, ◌*◌}
use native.Mathlib.Omega.{arith}
use lib.ListN.{length}
use Rattle.model.specs.Pattern.{matches}
use Rattle.model.specs.Policy.{rule_matches}
use Rattle.buffers.proofs.PartLaws.{part_length}
use Rattle.ternary.specs.Sizes.{key_size, positions}
use Rattle.records.specs.Layout.{rule_value, rule_mask, rule_size}
use Rattle.records.specs.Rules.{rules}
use Rattle.records.proofs.RuleLaws.{rule-in-place}
use Rattle.records.proofs.rule.rule_matches.Goals as goal

pub matches_row-requires : goal.matches_row-requires
matches_row-requires c =
    let a = c.args in
    let at = rule_size key_size * a.i + rule_value in
    let value : length c.rows_at.result.0.now ≡ key_size = rw c.rows_at.ensures.0 (part_length key_size at a.policy.now (omega arith)) in
    let mask : length c.rows_at.result.1.now ≡ key_size =
    rw c.rows_at.ensures.1 (part_length key_size (at + key_size) a.policy.now (omega arith))
    in
    (omega (arith, value, mask), omega (arith, value, mask, c.requires.1))

pub returns : goal.returns
returns c =
    let a = c.args in
    let lent = c.rows_at.result in
    let at = rule_size key_size * a.i + rule_value in
    let mask : at + key_size ≡ rule_size key_size * a.i + rule_mask key_size = omega arith in
    let long : length lent.0.now * 8 ≡ positions = rw (c.rows_at.ensures.0, part_length key_size at a.policy.now (omega arith)) refl in
    let taken : matches positions lent.0.now lent.1.now a.key.now ≡ rule_matches positions (rules key_size a.policy.now) a.key.now a.i =
    rw (c.rows_at.ensures.0, c.rows_at.ensures.1, mask) (rule-in-place key_size a.policy.now a.i c.requires.0 a.key.now)
    in
    c.matches_row.ensures ∙ ap (λ n. matches n lent.0.now lent.1.now a.key.now) long ∙ taken
