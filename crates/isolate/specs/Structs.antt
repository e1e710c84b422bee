-- The code's struct as the model's record, and the parts of it. Assumes nothing.
use Rattle.std.specs.Prelude.{◌≡◌, List, ℕ}
use Rattle.model.specs.Pattern.{wildcards}
use Rattle.model.specs.Policy.{Rule, rule_at}
use Rattle.model.specs.Isolate.{Isolated}
use Rattle.ternary.specs.Sizes.{positions}
use Rattle.isolate.specs.declared.rounds.Isolated.{Isolated as IsolatedStruct}

abbrev pub as_isolated : IsolatedStruct → Isolated
as_isolated x = record { value = x.pattern.value; mask = x.pattern.mask; fixed_bits = x.fixed; wildcards_left = x.wildcards }

-- a pattern of which so many bits were fixed, with its wildcard bits
abbrev pub with_counts : List ℕ → List ℕ → ℕ → Isolated
with_counts value mask fixed = record { value = value; mask = mask; fixed_bits = fixed; wildcards_left = wildcards positions mask }

-- the rows are those of rule i
pub record PatternOf (pol : List Rule) (i : ℕ) (value mask : List ℕ) : Type 0 where
  pub value-is : value ≡ (rule_at pol i).value
  pub mask_is : mask ≡ (rule_at pol i).mask
