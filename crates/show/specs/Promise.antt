-- What it means that a record is shown. Assumes nothing.
use Rattle.std.specs.Prelude.{◌≡◌, List, ◌↔◌, ℕ, length, None, Some, Ok}
use Rattle.model.specs.Policy.{best}
use Rattle.ends.specs.Ends.{LowestFor, NoneFor}
use Rattle.ternary.specs.Sizes.{key_size, positions}
use Rattle.records.specs.Layout.{rule_size, slot_size}
use Rattle.records.specs.Rules.{rules}
use Rattle.end_records.specs.Slots.{slots}
use Rattle.policy.specs.Lent.{lent_refusal}
use Rattle.show.specs.Answers.{show_answer, shown_part}
use Rattle.show.specs.declared.Source.TheVariants.{Table, Policy}

-- the lowest slot that takes the key, else the best rule, else nothing; and each in no other case
pub record Decides (policy key table : List ℕ) : Type 0 where
  pub slot : (i : ℕ) → (show_answer policy key table ≡ Ok (Some (Table i))) ↔ LowestFor positions (slots key_size table) key i
  pub rule : (r : ℕ) → (show_answer policy key table ≡ Ok (Some (Policy r)))
      ↔ (NoneFor positions (slots key_size table) key × (best positions (rules key_size policy) key ≡ Some r))
  pub neither : (show_answer policy key table ≡ Ok None)
      ↔ (NoneFor positions (slots key_size table) key × (best positions (rules key_size policy) key ≡ None))

-- for arguments that are not refused
abbrev pub DecidesLaw : Type 0
DecidesLaw = (policy key table : List ℕ) → lent_refusal policy key table ≡ None → Decides policy key table

-- the part is a whole slot, a whole rule, or empty, so its length alone says which buffer it is of
pub record WholePart (policy key table : List ℕ) : Type 0 where
  pub slot-long : (i : ℕ) → show_answer policy key table ≡ Ok (Some (Table i)) → length (shown_part policy key table) ≡ slot_size key_size
  pub rule-long : (r : ℕ) → show_answer policy key table ≡ Ok (Some (Policy r)) → length (shown_part policy key table) ≡ rule_size key_size
