-- The best rule of a key in the policy that a buffer holds. Assumes nothing.
use Rattle.std.specs.Prelude.{List, ℕ, cond, ltb, Option, None, Some, option_map}
use Rattle.model.specs.Policy.{Rule as PolicyRule, rule_at, best}
use Rattle.ternary.specs.Sizes.{key_size, positions}
use Rattle.records.specs.Rules.{rules}
use Rattle.policy.specs.declared.search.BestRule.{BestRule}
use Rattle.policy.specs.declared.search.Match.{Match}

-- the rule of that number, with its action
abbrev pub found_of : List PolicyRule → Option ℕ → Option BestRule
found_of pol found = option_map (λ i. record { number = i; action = (rule_at pol i).action }) found

unfoldable pub best_found : List ℕ → List ℕ → Option BestRule
best_found bs key = found_of (rules key_size bs) (best positions (rules key_size bs) key)

-- of the best so far and a later rule that matches the one that goes before
abbrev pub better : Option Match → Match → Match
better None later = later
better (Some earlier) later = cond (ltb earlier.priority later.priority) later earlier
