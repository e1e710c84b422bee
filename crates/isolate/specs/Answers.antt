-- What the call that isolates answers. Assumes nothing.
use Rattle.std.specs.Prelude.{Bool, false, List, ℕ, ltb, eqb, Option, None, Some, Result}
use Rattle.model.specs.Policy.{best}
use Rattle.model.specs.Isolate.{Isolated as IsolatedRule, isolate}
use Rattle.checks.specs.declared.refusal.Refusal.TheVariants.{NoSuchRule, NotBest}
use Rattle.ternary.specs.Sizes.{key_size, positions}
use Rattle.records.specs.Rules.{rule_count, rules}
use Rattle.checks.specs.Refusals.{or_else, need, answer_of}
use Rattle.checks.specs.declared.refusal.Refusal.{Refusal}
use Rattle.checks.specs.Keys.{key_refusal}
use Rattle.policy.specs.Refusals.{policy_refusal}
use Rattle.isolate.specs.declared.rounds.Isolated.{Isolated}

-- the best rule, if there is one, is this one
abbrev pub is_best : Option ℕ → ℕ → Bool
is_best None number = false
is_best (Some i) number = eqb i number

-- policy 1, 2, 3; key 1; 6; 7
unfoldable pub isolate_refusal : List ℕ → List ℕ → ℕ → Option Refusal
isolate_refusal policy key number =
    or_else (policy_refusal policy)
    (or_else (key_refusal key)
    (need (ltb number (rule_count key_size policy)) NoSuchRule
    (need (is_best (best positions (rules key_size policy) key) number) NotBest None)))

-- the model's isolated rule, as the code tells it
abbrev pub isolated_of : IsolatedRule → Isolated
isolated_of x = record { pattern = record { value = x.value; mask = x.mask }; fixed = x.fixed_bits; wildcards = x.wildcards_left }

-- the refusal, or the isolated rule
unfoldable pub isolate_answer : List ℕ → List ℕ → ℕ → Result Isolated Refusal
isolate_answer policy key number =
    answer_of (isolate_refusal policy key number) (isolated_of (isolate positions (rules key_size policy) key number))
