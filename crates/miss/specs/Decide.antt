-- What a miss comes to, by value, in the words of the model. Assumes nothing.
use Rattle.std.specs.Prelude.{◌≡◌, List, ℕ, ◌≤◌, eqb, length, Option, Some}
use Rattle.model.specs.Policy.{rule_at}
use Rattle.ends.specs.Ends.{first_for, last_sequence, largest, slot_for_entry, Miss, new_entry, miss_of, next_entry, on_miss}
use Rattle.ternary.specs.Sizes.{key_size, positions}
use Rattle.records.specs.Layout.{most_rules}
use Rattle.records.specs.Rules.{rule_count, rules}
use Rattle.end_records.specs.Slots.{slots}
use Rattle.records.specs.SlotBuffers.{WholeSlots}
use Rattle.isolate.specs.Ready.{Ready}
use Rattle.miss.specs.Decision.{policy_view}

-- ---- what is asked of the parts

-- as much as a decision needs of them: at most 1,024 rules, a whole key, whole slots. Refusal 3 is not asked after
pub record FineMiss (policy key keeper : List ℕ) : Type 0 where
  pub few : rule_count key_size policy ≤ most_rules
  pub long : length key ≡ key_size
  pub whole : WholeSlots keeper

-- the best rule of the key has that number and that action
pub record RuleFor (policy key : List ℕ) (number action : ℕ) : Type 0 where
  pub ready : Ready policy key number
  pub acts : action ≡ (rule_at (rules key_size policy) number).action

-- ---- what the miss comes to

-- of the best rule and the slot that takes the key
abbrev pub miss_with : List ℕ → List ℕ → List ℕ → Option ℕ → Option ℕ → Miss
miss_with policy key keeper best found =
    let k = slots key_size keeper in
    miss_of best found (eqb (largest k) last_sequence) (slot_for_entry k) (next_entry (policy_view policy) k key)

-- an entry for the rule is placed
abbrev pub entry_miss : List ℕ → List ℕ → List ℕ → ℕ → Miss
entry_miss policy key keeper number =
    let k = slots key_size keeper in
    new_entry (slot_for_entry k) (next_entry (policy_view policy) k key number)

abbrev pub rule_miss : List ℕ → List ℕ → List ℕ → ℕ → Miss
rule_miss policy key keeper number = miss_with policy key keeper (Some number) (first_for positions (slots key_size keeper) key)

-- what the model says of the miss
abbrev pub miss_in : List ℕ → List ℕ → List ℕ → Miss
miss_in policy key keeper = on_miss positions (policy_view policy) (slots key_size keeper) key
