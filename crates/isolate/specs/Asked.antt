-- What the contracts see of the rule that is isolated and its key. Assumes nothing.
use Rattle.std.specs.Prelude.{Bool, List, ℕ, ◌<◌, All}
use Rattle.model.specs.Policy.{Rule}
use Rattle.model.specs.Isolate.{separates}
use Rattle.ternary.specs.Sizes.{key_size}
use Rattle.records.specs.Rules.{rule_count, rules}
use Rattle.isolate.specs.declared.separation.Asked.{Asked}
use Rattle.isolate.specs.Leads.{separated}

-- the policy's rules
abbrev pub rules_of : Asked → List Rule
rules_of a = rules key_size a.policy.now

-- each of xs is the number of a rule of the policy
abbrev pub AreRules : Asked → List ℕ → Type 0
AreRules a xs = All (λ d. d < rule_count key_size a.policy.now) xs

-- a position separates a rule from the one that is isolated, for the key
abbrev pub separates_for : Asked → ℕ → ℕ → Bool
separates_for a = separates (rules_of a) a.key a.number

-- how many of xs a position separates
abbrev pub separated_for : Asked → List ℕ → ℕ → ℕ
separated_for a = separated (rules_of a) a.key a.number
