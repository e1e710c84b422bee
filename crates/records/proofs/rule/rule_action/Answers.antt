-- `records::rule::rule_action` meets its contract: the two bytes that are read are those of the rule's action. Assumes nothing.
use mathlib.Core.Path.{sym, ◌∙◌}
use Rattle.ternary.specs.Sizes.{key_size}
use Rattle.records.proofs.RuleLaws.{action-in-place}
use Rattle.records.proofs.rule.rule_action.Goals as goal

pub returns : goal.returns
returns c =
    c.be16.ensures ∙ sym (action-in-place key_size c.args.policy.now c.args.i c.requires)
