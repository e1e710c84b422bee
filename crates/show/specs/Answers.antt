-- Showing the decision: which record is shown for a key, and the part that it is. Assumes nothing.
use Rattle.std.specs.Prelude.{List, [], ℕ, Option, None, Some, Result, Ok, Err}
use Rattle.ends.specs.Show.{Shown, slot_shown, rule_shown, nothing_shown, shown}
use Rattle.ternary.specs.Sizes.{key_size, positions}
use Rattle.buffers.specs.Parts.{chunk}
use Rattle.records.specs.Layout.{rule_size, slot_size}
use Rattle.records.specs.Rules.{rules}
use Rattle.checks.specs.declared.refusal.Refusal.{Refusal}
use Rattle.checks.specs.Refusals.{answer_of}
use Rattle.end_records.specs.Slots.{slots}
use Rattle.policy.specs.Lent.{lent_refusal}
use Rattle.show.specs.declared.Source.{Source}
use Rattle.show.specs.declared.Source.TheVariants.{Table, Policy}

-- the model's record that decides, over the bytes
abbrev pub shown_in : List ℕ → List ℕ → List ℕ → Shown
shown_in policy key table = shown positions (rules key_size policy) (slots key_size table) key

-- which record it is
abbrev pub source_of : Shown → Option Source
source_of (slot_shown i) = Some (Table i)
source_of (rule_shown r) = Some (Policy r)
source_of nothing_shown = None

-- the refusal (policy 1, 2, 3; key 1; table 4), or which record is shown
unfoldable pub show_answer : List ℕ → List ℕ → List ℕ → Result (Option Source) Refusal
show_answer policy key table = answer_of (lent_refusal policy key table) (source_of (shown_in policy key table))

-- the part that an answer names: the slot's bytes of the table, the rule's of the policy, or the empty part
abbrev pub part_of : List ℕ → List ℕ → Result (Option Source) Refusal → List ℕ
part_of policy table (Err r) = []
part_of policy table (Ok None) = []
part_of policy table (Ok (Some (Table i))) = chunk (slot_size key_size) table i
part_of policy table (Ok (Some (Policy r))) = chunk (rule_size key_size) policy r

unfoldable pub shown_part : List ℕ → List ℕ → List ℕ → List ℕ
shown_part policy key table = part_of policy table (show_answer policy key table)
