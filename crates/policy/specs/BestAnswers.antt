-- What the call for the best rule answers. Assumes nothing.
use Rattle.std.specs.Prelude.{List, ℕ, Option, Result}
use Rattle.checks.specs.declared.refusal.Refusal.{Refusal}
use Rattle.checks.specs.Refusals.{answer_of}
use Rattle.policy.specs.Answers.{best_refusal}
use Rattle.policy.specs.Best.{best_found}
use Rattle.policy.specs.declared.search.BestRule.{BestRule}

-- the refusal, or the best rule, if there is one
unfoldable pub best_answer : List ℕ → List ℕ → Result (Option BestRule) Refusal
best_answer bs key = answer_of (best_refusal bs key) (best_found bs key)
