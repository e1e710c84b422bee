-- `isolate::separation::Asked::rule_pattern` meets its contract: the rule that is read is the policy's of that number. Assumes nothing.
use mathlib.Core.Path.{◌≡◌, sym, ap, ◌∙◌}
use Rattle.model.specs.Policy.{Rule, rule_at}
use Rattle.ternary.specs.Sizes.{key_size}
use Rattle.records.specs.Rules.{rules}
use Rattle.records.specs.Structs.{as_rule}
use Rattle.records.proofs.RuleLaws.{rule-at}
use Rattle.isolate.proofs.separation.Asked.rule_pattern.Goals as goal

pub returns : goal.returns
returns c =
    let policy = c.args.self.now.policy.now in
    let is : as_rule c.rule_at.result ≡ rule_at (rules key_size policy) c.args.self.now.number =
    c.rule_at.ensures ∙ sym (rule-at key_size policy c.args.self.now.number c.args.self.now.low)
    in
    record { value-is = ap (λ (r : Rule). r.value) is; mask_is = ap (λ (r : Rule). r.mask) is }
