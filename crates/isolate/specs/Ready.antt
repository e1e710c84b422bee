-- What has to hold for a rule to be isolated. Assumes nothing.
use Rattle.std.specs.Prelude.{◌≡◌, List, ℕ, ◌≤◌, ◌<◌, length, Some}
use Rattle.model.specs.Policy.{best}
use Rattle.ternary.specs.Sizes.{key_size, positions}
use Rattle.records.specs.Layout.{most_rules}
use Rattle.records.specs.Rules.{rule_count, rules}

-- of a policy with few enough rules, the rule of that number is the best one of a key
pub record Ready (policy key : List ℕ) (number : ℕ) : Type 0 where
  pub low : number < rule_count key_size policy
  pub few : rule_count key_size policy ≤ most_rules
  pub long : length key ≡ key_size
  pub is-best : best positions (rules key_size policy) key ≡ Some number
