-- The code's struct as the model's record. Assumes nothing.
use Rattle.model.specs.Policy.{Rule}
use Rattle.records.specs.declared.rule.Rule.{Rule as RuleStruct}

abbrev pub as_rule : RuleStruct → Rule
as_rule x = record { value = x.pattern.value; mask = x.pattern.mask; priority = x.priority; action = x.action }
