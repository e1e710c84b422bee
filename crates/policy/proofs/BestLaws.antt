-- What the best rule that was found says of the key, for its callers. Assumes nothing.
use mathlib.Core.Path.{◌≡◌, refl}
use mathlib.Core.List.{List}
use Rattle.std.specs.Prelude.{Option, None, Some}
use Prim.Native.Nat.{ℕ, ◌<◌}
use native.Mathlib.Omega.{arith}
use Rattle.model.specs.Policy.{Rule as PolicyRule, rule_at, best}
use Rattle.model.proofs.PolicyLaws.{best-inside}
use Rattle.ternary.specs.Sizes.{key_size, positions}
use Rattle.records.specs.Rules.{rule_count, rules}
use Rattle.records.proofs.RuleLaws.{rule-count}
use Rattle.policy.specs.Best.{found_of, best_found}
use Rattle.policy.specs.declared.search.BestRule.{BestRule}

none_of : (pol : List PolicyRule) (o : Option ℕ) → found_of pol o ≡ None → o ≡ None
none_of pol None e = refl
none_of pol (Some i) e = let z : ◌≡◌ {A = ℕ} 0 1 = cc in absurd (omega arith)

rule-of : (pol : List PolicyRule) (o : Option ℕ) (x : BestRule) → found_of pol o ≡ Some x → (o ≡ Some x.number) × (x.action ≡ (rule_at pol x.number).action)
rule-of pol None x e = let z : ◌≡◌ {A = ℕ} 0 1 = cc in absurd (omega arith)
rule-of pol (Some j) x e =
    let same : x ≡ record { number = j; action = (rule_at pol j).action } = cc in
    rw same (refl, refl)

module _ (policy key : List ℕ) where
  pub found_none : best_found policy key ≡ None → best positions (rules key_size policy) key ≡ None
  unfolding best_found
  found_none e = none_of (rules key_size policy) _ e

  pub found-rule : (x : BestRule) → best_found policy key ≡ Some x → best positions (rules key_size policy) key ≡ Some x.number
  unfolding best_found
  found-rule x e = (rule-of (rules key_size policy) _ x e).0

  pub found-action : (x : BestRule) → best_found policy key ≡ Some x → x.action ≡ (rule_at (rules key_size policy) x.number).action
  unfolding best_found
  found-action x e = (rule-of (rules key_size policy) (best positions (rules key_size policy) key) x e).1

  -- the best rule is one of the policy
  pub best-below : (i : ℕ) → best positions (rules key_size policy) key ≡ Some i → i < rule_count key_size policy
  best-below i e = omega (arith, best-inside (rules key_size policy) positions key i e, rule-count key_size policy)
