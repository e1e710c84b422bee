-- What the answer says of the record that is shown, and what the tests come to. Assumes nothing.
use mathlib.Core.Path.{◌≡◌, refl, sym}
use mathlib.Core.List.{List}
use Rattle.std.specs.Prelude.{Option, None, Some, Ok, MatchOption}
use Prim.Native.Nat.{ℕ, ◌<◌}
use native.Mathlib.Omega.{arith}
use Rattle.model.specs.Policy.{best}
use Rattle.ends.specs.Ends.{first_for}
use Rattle.ends.specs.Show.{Shown, slot_shown, rule_shown, nothing_shown, shown, ShownFor}
use Rattle.ends.proofs.Show.{shown-for}
use Rattle.ternary.specs.Sizes.{key_size, positions}
use Rattle.records.specs.Rules.{rule_count, rules}
use Rattle.checks.specs.declared.refusal.Refusal.{Refusal}
use Rattle.end_records.specs.Slots.{slots}
use Rattle.records.specs.SlotBuffers.{slot_count}
use Rattle.end_records.proofs.SlotLaws.{slot-count}
use Rattle.checks.specs.Refusals.{answer_of}
use Rattle.policy.specs.Lent.{lent_refusal}
use Rattle.policy.proofs.BestLaws.{best-below, found_none, found-rule}
use Rattle.policy.specs.Best.{best_found}
use Rattle.policy.specs.declared.search.BestRule.{BestRule}
use Rattle.show.specs.Answers.{shown_in, source_of, show_answer}
use Rattle.show.specs.declared.Source.{Source}
use Rattle.show.specs.declared.Source.TheVariants.{Table, Policy}

-- ---- from the answer to the record

of-slot : (o : Option Refusal) (x : Shown) (i : ℕ) → answer_of o (source_of x) ≡ Ok (Some (Table i)) → (o ≡ None) × (x ≡ slot_shown i)
of-slot (Some r) x i e = let z : ◌≡◌ {A = ℕ} 0 1 = cc in absurd (omega arith)
of-slot None (slot_shown k) i e = (refl, cc)
of-slot None (rule_shown k) i e = let z : ◌≡◌ {A = ℕ} 0 1 = cc in absurd (omega arith)
of-slot None nothing_shown i e = let z : ◌≡◌ {A = ℕ} 0 1 = cc in absurd (omega arith)

of-rule : (o : Option Refusal) (x : Shown) (i : ℕ) → answer_of o (source_of x) ≡ Ok (Some (Policy i)) → (o ≡ None) × (x ≡ rule_shown i)
of-rule (Some r) x i e = let z : ◌≡◌ {A = ℕ} 0 1 = cc in absurd (omega arith)
of-rule None (slot_shown k) i e = let z : ◌≡◌ {A = ℕ} 0 1 = cc in absurd (omega arith)
of-rule None (rule_shown k) i e = (refl, cc)
of-rule None nothing_shown i e = let z : ◌≡◌ {A = ℕ} 0 1 = cc in absurd (omega arith)

of-neither : (o : Option Refusal) (x : Shown) → answer_of o (source_of x) ≡ Ok None → (o ≡ None) × (x ≡ nothing_shown)
of-neither (Some r) x e = let z : ◌≡◌ {A = ℕ} 0 1 = cc in absurd (omega arith)
of-neither None (slot_shown k) e = let z : ◌≡◌ {A = ℕ} 0 1 = cc in absurd (omega arith)
of-neither None (rule_shown k) e = let z : ◌≡◌ {A = ℕ} 0 1 = cc in absurd (omega arith)
of-neither None nothing_shown e = (refl, refl)

module _ (policy key table : List ℕ) where
  -- a record that is shown: none of the arguments is refused, and the model shows it
  pub table-shown : (i : ℕ) → show_answer policy key table ≡ Ok (Some (Table i))
      → (lent_refusal policy key table ≡ None) × (shown_in policy key table ≡ slot_shown i)
  unfolding show_answer
  table-shown i e = of-slot (lent_refusal policy key table) (shown_in policy key table) i e

  pub policy-shown : (r : ℕ) → show_answer policy key table ≡ Ok (Some (Policy r))
      → (lent_refusal policy key table ≡ None) × (shown_in policy key table ≡ rule_shown r)
  unfolding show_answer
  policy-shown r e = of-rule (lent_refusal policy key table) (shown_in policy key table) r e

  pub nothing-shown : show_answer policy key table ≡ Ok None → shown_in policy key table ≡ nothing_shown
  unfolding show_answer
  nothing-shown e = (of-neither (lent_refusal policy key table) (shown_in policy key table) e).1

  -- ---- from the tests to the answer

  module _ (fine : lent_refusal policy key table ≡ None) where
    pub says_slot : (i : ℕ) → first_for positions (slots key_size table) key ≡ Some i → Ok (Some (Table i)) ≡ show_answer policy key table
    unfolding show_answer shown
    says_slot i e = rw (fine, e)

    module _ (missed : first_for positions (slots key_size table) key ≡ None) where
      pub says-rule : (r : ℕ) → best positions (rules key_size policy) key ≡ Some r → Ok (Some (Policy r)) ≡ show_answer policy key table
      unfolding show_answer shown
      says-rule r e = rw (fine, missed, e)

      pub says_none : best positions (rules key_size policy) key ≡ None → Ok None ≡ show_answer policy key table
      unfolding show_answer shown
      says_none e = rw (fine, missed, e)

      -- what the policy gives, told as a source
      pub says-found : (found : Option BestRule) (r : Option Source) → found ≡ best_found policy key
          → MatchOption found (r ≡ None) (λ x. r ≡ Some (Policy x.number)) → Ok r ≡ show_answer policy key table
      says-found None r e h = rw h (says_none (found_none policy key (sym e)))
      says-found (Some b) r e h = rw h (says-rule b.number (found-rule policy key b (sym e)))

module _ (policy key table : List ℕ) where
  decides : ShownFor positions (rules key_size policy) (slots key_size table) key
  decides = shown-for positions (rules key_size policy) (slots key_size table) key

  -- a slot that is shown is one of the table, and a rule that is shown one of the policy
  pub table_below : (i : ℕ) → show_answer policy key table ≡ Ok (Some (Table i)) → i < slot_count key_size table
  table_below i e = omega (arith, ((decides.slot i).0 (table-shown policy key table i e).1).inside, slot-count key_size table)

  pub policy-below : (r : ℕ) → show_answer policy key table ≡ Ok (Some (Policy r)) → r < rule_count key_size policy
  policy-below r e = best-below policy key r ((decides.rule r).0 (policy-shown policy key table r e).1).1
