-- Which outcomes give a write, and which place an entry. Assumes nothing.
use mathlib.Core.Path.{◌≡◌, refl, ap, ◌∙◌}
use mathlib.Core.Bool.{true, false}
use mathlib.Core.List.{List}
use Rattle.std.specs.Prelude.{Option, None, Some, option_map, is_some}
use Rattle.std.specs.Option.{ForSome}
use Prim.Native.Nat.{ℕ}
use Rattle.ends.specs.Records.{Slot, Entry, slot_at}
use Rattle.ends.specs.Ends.{PolicyView, Miss, no_rule, again, new_entry, used_up, is_empty}
use Rattle.ends.specs.Trace.{miss_outcome}
use Rattle.model.proofs.Cases.{by_cases}
use Rattle.records.specs.Outcomes.{as_struct, gives_write, gives_new_entry}
use Rattle.records.specs.declared.outcome.Outcome.{Outcome as OutcomeStruct}
use Rattle.ternary.specs.Sizes.{key_size}
use Rattle.end_records.specs.Slots.{slots}
use Rattle.end_records.specs.MessageStructs.{as_write}
use Rattle.end_records.specs.declared.write.Write.{Write as WriteStruct}
use Rattle.miss.specs.Decision.{policy_view, DecidedAs}
use Rattle.miss.specs.declared.decision.Decision.{Decision}

abbrev number : OutcomeStruct → ℕ
number x = x.outcome

module _ (p : PolicyView) (k : List Slot) (x : OutcomeStruct) where
  pub none-quiet : x ≡ as_struct (miss_outcome p k no_rule) → gives_write x.outcome ≡ false
  unfolding gives_write
  none-quiet e = rw (ap number e)

  pub full-quiet : {r : ℕ} → x ≡ as_struct (miss_outcome p k (used_up r)) → gives_write x.outcome ≡ false
  unfolding gives_write
  full-quiet e = rw (ap number e)

  pub again-given : (i : ℕ) → x ≡ as_struct (miss_outcome p k (again i)) → (gives_write x.outcome ≡ true) × (gives_new_entry x.outcome ≡ false)
  unfolding gives_write gives_new_entry
  again-given i e = rw (ap number e) (refl, refl)

  pub entry-given : (i : ℕ) (y : Entry) → x ≡ as_struct (miss_outcome p k (new_entry i y))
      → (gives_write x.outcome ≡ true) × (gives_new_entry x.outcome ≡ true)
  unfolding gives_write gives_new_entry
  entry-given i y h =
      by_cases (is_empty (slot_at k i))
      (λ t. let e : x.outcome ≡ 2 = ap number h ∙ rw t in rw e (refl, refl))
      (λ t. let e : x.outcome ≡ 3 = ap number h ∙ rw t in rw e (refl, refl))

-- so a decision gives a write exactly in the outcomes in which one is given
some-mapped : (o : Option WriteStruct) → is_some (option_map as_write o) ≡ is_some o
some-mapped None = refl
some-mapped (Some w) = refl

module _ (policy keeper : List ℕ) where
  abbrev p' : PolicyView
  p' = policy_view policy

  abbrev k' : List Slot
  k' = slots key_size keeper

  pub told-given : {d : Decision} (m : Miss) → DecidedAs policy keeper m d → gives_write d.outcome.outcome ≡ is_some d.write
  told-given {d} no_rule is = rw (← some-mapped d.write, is.write) (none-quiet p' k' d.outcome is.outcome)
  told-given {d} (again i) is = rw (← some-mapped d.write, is.write) (again-given p' k' d.outcome i is.outcome).0
  told-given {d} (new_entry i x) is = rw (← some-mapped d.write, is.write) (entry-given p' k' d.outcome i x is.outcome).0
  told-given {d} (used_up r) is = rw (← some-mapped d.write, is.write) (full-quiet p' k' d.outcome is.outcome)

  pub given-told : {d : Decision} (m : Miss) → DecidedAs policy keeper m d → ForSome d.write (λ w. gives_write d.outcome.outcome ≡ true)
  given-told m is w t = told-given m is ∙ ap is_some t
