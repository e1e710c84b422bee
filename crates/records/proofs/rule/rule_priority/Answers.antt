-- `records::rule::rule_priority` meets its contract: the two bytes that are read are those of the rule's priority. Assumes nothing.
use mathlib.Core.Path.{sym, ◌∙◌}
use Rattle.ternary.specs.Sizes.{key_size}
use Rattle.records.proofs.RuleLaws.{priority-in-place}
use Rattle.records.proofs.rule.rule_priority.Goals as goal

pub returns : goal.returns
returns c =
    c.be16.ensures ∙ sym (priority-in-place key_size c.args.policy.now c.args.i c.requires)
