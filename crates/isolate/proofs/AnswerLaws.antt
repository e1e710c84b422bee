-- What the tests of the call that isolates come to: each way out, and what is known where the rule is isolated. Assumes nothing.
use mathlib.Core.Path.{◌≡◌, refl, sym, ap, ◌∙◌}
use mathlib.Core.Bool.{true}
use mathlib.Core.List.{List}
use Rattle.std.specs.Prelude.{Option, None, Some, Result, Ok, Err, ⊤}
use mathlib.Core.Logic.{◌≢◌}
use Prim.Native.Nat.{ℕ, ◌≤◌, ◌<◌}
use lib.Dec.{ltb}
use lib.ListN.{length}
use borrow.Author.Tests.{lt-ltb, le-ltb, ltb-true, eqb-true, eq-eqb, ne_eqb}
use Rattle.model.specs.Policy.{best}
use Rattle.checks.specs.declared.refusal.Refusal.TheVariants.{NoSuchRule, NotBest}
use Rattle.model.proofs.Cases.{clash}
use Rattle.ternary.specs.Sizes.{key_size, positions}
use Rattle.records.specs.Rules.{rule_count, rules}
use Rattle.checks.specs.Refusals.{verdict_of}
use Rattle.checks.specs.declared.refusal.Refusal.{Refusal}
use Rattle.checks.proofs.RefusalLaws.{none_first, need-none, key-accepted, verdict-refused, verdict-fine}
use Rattle.checks.specs.Keys.{key_refusal}
use Rattle.policy.specs.Refusals.{policy_refusal}
use Rattle.policy.specs.Best.{best_found}
use Rattle.policy.specs.declared.search.BestRule.{BestRule}
use Rattle.policy.proofs.CheckLaws.{passed-few}
use Rattle.policy.proofs.BestLaws.{found_none, found-rule}
use Rattle.isolate.specs.Ready.{Ready}
use Rattle.isolate.specs.Answers.{is_best, isolate_refusal}

-- ---- each way out

module _ (policy key : List ℕ) (number : ℕ) where
  abbrev says : Result ⊤ Refusal → Type 0
  says r = r ≡ verdict_of (isolate_refusal policy key number)

  pub said-policy : (r : Refusal) → policy_refusal policy ≡ Some r → says (Err r)
  unfolding isolate_refusal
  said-policy r e = rw e

  module _ (fine : policy_refusal policy ≡ None) where
    pub said-key : {r : Refusal} → key_refusal key ≡ Some r → says (Err r)
    unfolding isolate_refusal
    said-key h = rw (fine, h)

    module _ (long : length key ≡ key_size) where
      pub said-number : rule_count key_size policy ≤ number → says (Err NoSuchRule)
      unfolding isolate_refusal key_refusal
      said-number h = rw (fine, eq-eqb _ _ long, le-ltb _ _ h)

      -- the key's best rule, as it was found
      module _ (low : number < rule_count key_size policy) (b : Option BestRule) (e : b ≡ best_found policy key) where
        pub said-none : b ≡ None → says (Err NotBest)
        unfolding isolate_refusal key_refusal
        said-none t =
            let is : best positions (rules key_size policy) key ≡ None = found_none policy key (sym e ∙ t) in
            rw (fine, eq-eqb _ _ long, lt-ltb _ _ low, is)

        pub said-other : (x : BestRule) → b ≡ Some x → x.number ≢ number → says (Err NotBest)
        unfolding isolate_refusal key_refusal
        said-other x t h =
            let is : best positions (rules key_size policy) key ≡ Some x.number = found-rule policy key x (sym e ∙ t) in
            rw (fine, eq-eqb _ _ long, lt-ltb _ _ low, is, ne_eqb x.number number h)

        pub said-isolated : (x : BestRule) → b ≡ Some x → x.number ≡ number → says (Ok tt)
        unfolding isolate_refusal key_refusal
        said-isolated x t h =
            let is : best positions (rules key_size policy) key ≡ Some x.number = found-rule policy key x (sym e ∙ t) in
            rw (fine, eq-eqb _ _ long, lt-ltb _ _ low, is, eq-eqb x.number number h)

-- ---- where the rule is isolated

best-is : (o : Option ℕ) (number : ℕ) → is_best o number ≡ true → o ≡ Some number
best-is None number e = clash e refl
best-is (Some i) number e = ap Some (eqb-true i number e)

pub policy-fine : (policy key : List ℕ) (number : ℕ) → isolate_refusal policy key number ≡ None → policy_refusal policy ≡ None
unfolding isolate_refusal
policy-fine policy key number e = (none_first (policy_refusal policy) _ e).0

module _ (policy key : List ℕ) (number : ℕ) (s : Result ⊤ Refusal) (e : s ≡ verdict_of (isolate_refusal policy key number)) where
  pub refused_as : (r : Refusal) → s ≡ Err r → isolate_refusal policy key number ≡ Some r
  refused_as r t = verdict-refused (isolate_refusal policy key number) e t

  pub isolated-as : s ≡ (Ok tt) → isolate_refusal policy key number ≡ None
  isolated-as t = verdict-fine (isolate_refusal policy key number) e t

  pub ready : s ≡ (Ok tt) → Ready policy key number
  unfolding isolate_refusal
  ready t =
      let p = none_first (policy_refusal policy) _ (isolated-as t) in
      let k = none_first (key_refusal key) _ p.1 in
      let n = need-none (ltb number (rule_count key_size policy)) NoSuchRule _ k.1 in
      let b = need-none (is_best (best positions (rules key_size policy) key) number) NotBest None n.1 in
      record {
        low = ltb-true _ _ n.0;
        few = passed-few policy p.0;
        long = key-accepted key k.0;
        is-best = best-is _ number b.0;
      }
