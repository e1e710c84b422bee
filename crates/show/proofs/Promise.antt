-- The record that is shown is the one that decides, and a whole record of its buffer. Assumes nothing.
use mathlib.Core.Path.{◌≡◌}
use mathlib.Core.List.{List}
use Rattle.std.specs.Prelude.{None, Ok, Some}
use Prim.Native.Nat.{ℕ, ◌*◌}
use native.Mathlib.Omega.{arith}
use Rattle.ends.specs.Show.{slot_shown, rule_shown, nothing_shown}
use Rattle.ends.proofs.Show.{shown-for}
use Rattle.ternary.specs.Sizes.{key_size, positions}
use Rattle.buffers.proofs.PartLaws.{part_length}
use Rattle.records.specs.Layout.{rule_size, slot_size}
use Rattle.records.specs.Rules.{rules}
use Rattle.end_records.specs.Slots.{slots}
use Rattle.policy.specs.Lent.{lent_refusal}
use Rattle.show.specs.Answers.{shown_in, show_answer, shown_part}
use Rattle.show.specs.Promise.{DecidesLaw, WholePart}
use Rattle.show.specs.declared.Source.TheVariants.{Table, Policy}
use Rattle.show.proofs.AnswerLaws.{table-shown, policy-shown, nothing-shown, table_below, policy-below}

module _ (policy key table : List ℕ) (fine : lent_refusal policy key table ≡ None) where
  slot-here : (i : ℕ) → shown_in policy key table ≡ slot_shown i → show_answer policy key table ≡ Ok (Some (Table i))
  unfolding show_answer
  slot-here i e = rw (fine, e)

  rule-here : (r : ℕ) → shown_in policy key table ≡ rule_shown r → show_answer policy key table ≡ Ok (Some (Policy r))
  unfolding show_answer
  rule-here r e = rw (fine, e)

  neither-here : shown_in policy key table ≡ nothing_shown → show_answer policy key table ≡ Ok None
  unfolding show_answer
  neither-here e = rw (fine, e)

-- where no argument is refused
pub decides : DecidesLaw
decides policy key table fine =
    let model = shown-for positions (rules key_size policy) (slots key_size table) key in
    record {
      slot = λ i. (
        λ e. (model.slot i).0 (table-shown policy key table i e).1,
        λ h. slot-here policy key table fine i ((model.slot i).1 h),
      );
      rule = λ r. (
        λ e. (model.rule r).0 (policy-shown policy key table r e).1,
        λ h. rule-here policy key table fine r ((model.rule r).1 h),
      );
      neither = (
        λ e. model.neither.0 (nothing-shown policy key table e),
        λ h. neither-here policy key table fine (model.neither.1 h),
      );
    }

-- for every argument
pub whole_part : (policy key table : List ℕ) → WholePart policy key table
unfolding shown_part
whole_part policy key table =
    record {
      slot-long = λ i e. rw e (part_length (slot_size key_size) (slot_size key_size * i) table (omega (arith, table_below policy key table i e)));
      rule-long = λ r e. rw e (part_length (rule_size key_size) (rule_size key_size * r) policy (omega (arith, policy-below policy key table r e)));
    }
