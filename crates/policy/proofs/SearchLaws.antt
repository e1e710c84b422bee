-- For the loop that keeps the best of the rules so far. Assumes nothing.
use mathlib.Core.Path.{◌≡◌, refl}
use mathlib.Core.Bool.{true, false}
use mathlib.Core.List.{List}
use Rattle.std.specs.Prelude.{Option, None, Some, option_map}
use Prim.Native.Nat.{ℕ, ◌+◌}
use lib.Dec.{ltb}
use lib.ListN.{length}
use borrow.Author.Tests.{ltb-true, ltb-false}
use Rattle.model.specs.Policy.{Rule, rule_at, rule_matches, best}
use Rattle.model.proofs.Cases.{by_cases}
use Rattle.model.proofs.BestLoop.{BestSoFar, best_none, best-passed, best-first, best-taken, best-kept, best-done}
use Rattle.policy.specs.declared.search.Match.{Match}
use Rattle.policy.specs.Best.{better}

module _ (n : ℕ) (pol : List Rule) (key : List ℕ) where
  -- of the rules below i the best is this one
  abbrev pub KeptBest : ℕ → Option Match → Type 0
  KeptBest i None = BestSoFar n pol key i false 0 0
  KeptBest i (Some m) = BestSoFar n pol key i true m.number m.priority

  pub kept-none : KeptBest 0 None
  kept-none = best_none n pol key 0 0

  module _ (i : ℕ) where
    -- the next does not match
    pub kept-passed : (best : Option Match) → KeptBest i best → rule_matches n pol key i ≡ false → KeptBest (i + 1) best
    kept-passed None is e = best-passed n pol key is e
    kept-passed (Some m) is e = best-passed n pol key is e

    -- it does
    pub kept-better : (best : Option Match) → KeptBest i best → rule_matches n pol key i ≡ true
        → KeptBest (i + 1) (Some (better best (record { number = i; priority = (rule_at pol i).priority })))
    kept-better None is e = best-first n pol key is refl e
    kept-better (Some m) is e =
        by_cases (ltb m.priority (rule_at pol i).priority)
        (λ t. rw t (best-taken n pol key is refl e (ltb-true _ _ t)))
        (λ t. rw t (best-kept n pol key is refl e (ltb-false _ _ t)))

    -- all rules were looked at
    pub kept-all : (o : Option Match) → KeptBest i o → i ≡ length pol → best n pol key ≡ option_map (λ m. m.number) o
    kept-all None is e = best-done n pol key is e
    kept-all (Some m) is e = best-done n pol key is e
