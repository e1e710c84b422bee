-- What each branch of a miss's decision comes to. Assumes nothing.
use mathlib.Core.Path.{◌≡◌, sym, ap, ◌∙◌}
use mathlib.Core.List.{List}
use mathlib.Core.Logic.{◌≢◌}
use Rattle.std.specs.Prelude.{cond, None, Some, Option}
use Rattle.model.proofs.Cases.{by_cases}
use Prim.Native.Nat.{ℕ, suc, ◌<◌}
use native.Mathlib.Omega.{arith}
use borrow.Author.Tests.{eq-eqb, ne_eqb}
use Rattle.ends.specs.Records.{Slot, Write, write_for, slot_at}
use Rattle.model.specs.Policy.{Rule as PolicyRule, rule_at}
use Rattle.model.specs.Isolate.{Isolated, isolate}
use Rattle.ends.specs.Ends.{is_empty, first_for, last_sequence, largest, slot_for_entry, again, on_miss, next_entry}
use Rattle.ends.specs.Trace.{nothing}
use Rattle.ends.proofs.Slots.{slot-for-entry-lt}
use Rattle.ternary.specs.Sizes.{key_size, positions}
use Rattle.records.specs.Rules.{rules}
use Rattle.end_records.specs.Slots.{slots}
use Rattle.records.specs.SlotBuffers.{slot_count, WholeSlots}
use Rattle.end_records.proofs.SlotLaws.{slot-count}
use Rattle.slots.proofs.FindLaws.{held_below}
use Rattle.end_records.specs.MessageStructs.{as_write}
use Rattle.end_records.specs.declared.write.Write.{Write as WriteStruct}
use Rattle.records.specs.Outcomes.{as_struct}
use Rattle.records.proofs.OutcomeLaws.{some-number, nothing-none}
use Rattle.policy.specs.Best.{best_found}
use Rattle.policy.specs.declared.search.BestRule.{BestRule}
use Rattle.policy.proofs.BestLaws.{found_none, found-rule, found-action, best-below}
use Rattle.miss.specs.Decision.{policy_view, DecidedAs, NoWrite, entry_outcome}
use Rattle.miss.specs.declared.decision.Decision.{Decision}
use Rattle.miss.proofs.GivenLaws.{none-inside, some-inside}
use Rattle.miss.specs.Decide.{FineMiss, RuleFor, miss_with, entry_miss, rule_miss, miss_in}

-- ---- an entry's outcome

entry-struct : (k : List Slot) (i action rule : ℕ) → i < nothing → rule < nothing
    → entry_outcome k i action rule
    ≡ as_struct (cond (is_empty (slot_at k i))
    (record { outcome = 2; action = action; rule = rule; slot = i; evicted = nothing })
    (record { outcome = 3; action = action; rule = rule; slot = i; evicted = (slot_at k i).rule }))
entry-struct k i action rule l m =
    by_cases (is_empty (slot_at k i))
    (λ t. rw (t, some-number i l, some-number rule m, nothing-none))
    (λ f. rw (f, some-number i l, some-number rule m))

-- ---- the rule

module _ (policy key keeper : List ℕ) where
  abbrev ks : List Slot
  ks = slots key_size keeper

  pub slot-inside : {i : ℕ} → WholeSlots keeper → i ≡ slot_for_entry ks → i < slot_count key_size keeper
  slot-inside whole e = omega (arith, slot-for-entry-lt ks (omega (arith, whole.some-there, slot-count key_size keeper)), slot-count key_size keeper)

  -- a rule's number is none but its own
  rule-told : {number action : ℕ} → RuleFor policy key number action → number < nothing
  rule-told rule = omega (arith, rule.ready.low, rule.ready.few)

  pub used-up : {number action last : ℕ} {d : Decision} → RuleFor policy key number action
      → WholeSlots keeper → last ≡ largest ks → last ≡ last_sequence
      → NoWrite 4 action (Some number) d → DecidedAs policy keeper (miss_with policy key keeper (Some number) None) d
  used-up {number} rule whole e t is =
      rw (eq-eqb (largest ks) last_sequence (sym e ∙ t))
      (record {
        outcome = is.told ∙ rw (rule.acts, some-number number (rule-told rule), nothing-none);
        write = rw is.write;
        inside = none-inside is.write;
      })

  pub not-used-up : {number last : ℕ} {d : Decision} → last ≡ largest ks → last ≢ last_sequence
      → DecidedAs policy keeper (entry_miss policy key keeper number) d
      → DecidedAs policy keeper (miss_with policy key keeper (Some number) None) d
  not-used-up e n is = rw (ne_eqb (largest ks) last_sequence (λ t. n (e ∙ t))) is

  pub held : (number : ℕ) {i : ℕ} {h : Option ℕ} {d : Decision} → h ≡ first_for positions ks key → h ≡ Some i
      → DecidedAs policy keeper (again i) d → DecidedAs policy keeper (rule_miss policy key keeper number) d
  held number {i} e t is = rw (sym e ∙ t) is

  pub held-inside : {i : ℕ} {h : Option ℕ} → h ≡ first_for positions ks key → h ≡ Some i → i < slot_count key_size keeper
  held-inside {i} e t = held_below keeper key i (sym e ∙ t)

  pub not-held : (number : ℕ) {h : Option ℕ} {d : Decision} → h ≡ first_for positions ks key → h ≡ None
      → DecidedAs policy keeper (miss_with policy key keeper (Some number) None) d → DecidedAs policy keeper (rule_miss policy key keeper number) d
  not-held number e t is = rw (sym e ∙ t) is

  -- ---- the best rule

  abbrev pol : List PolicyRule
  pol = rules key_size policy

  pub no-rule : {b : Option BestRule} {d : Decision} → FineMiss policy key keeper → b ≡ best_found policy key → b ≡ None → NoWrite 0 0 None d
      → DecidedAs policy keeper (miss_in policy key keeper) d
  unfolding on_miss
  no-rule fine e t is =
      rw (found_none policy key (sym e ∙ t))
      (record { outcome = rw nothing-none is.told; write = rw is.write; inside = none-inside is.write })

  pub rule-for : {b : Option BestRule} {x : BestRule} → FineMiss policy key keeper → b ≡ best_found policy key → b ≡ Some x
      → RuleFor policy key x.number x.action
  rule-for {b} {x} fine e t =
      let is = found-rule policy key x (sym e ∙ t) in
      record {
        ready = record { low = best-below policy key x.number is; few = fine.few; long = fine.long; is-best = is };
        acts = found-action policy key x (sym e ∙ t);
      }

  pub has-rule : {number action : ℕ} {d : Decision} → RuleFor policy key number action
      → DecidedAs policy keeper (rule_miss policy key keeper number) d → DecidedAs policy keeper (miss_in policy key keeper) d
  unfolding on_miss
  has-rule rule is = rw rule.ready.is-best is

  -- ---- an entry is placed

  pub entry-decided : {number number' action sequence i : ℕ} {x : Isolated} {d : Decision} {g : WriteStruct}
      → RuleFor policy key number action → WholeSlots keeper
      → sequence ≡ suc (largest ks) → number' ≡ number → x ≡ isolate positions pol key number' → i ≡ slot_for_entry ks
      → d.outcome ≡ entry_outcome ks i action number
      → d.write ≡ Some g → as_write g ≡ record { slot = i; sequence = sequence; value = x.value; mask = x.mask; action = action; rule = number }
      → DecidedAs policy keeper (entry_miss policy key keeper number) d
  entry-decided {number} {number'} {action} {sequence} {i} {x} {d} {g} rule whole s n e r o t w =
      let pattern : x ≡ isolate positions pol key number = e ∙ ap (isolate positions pol key) n in
      let slot : i < nothing = omega (arith, slot-inside whole r, whole.few-there) in
      let told : d.outcome ≡ entry_outcome ks (slot_for_entry ks) (rule_at pol number).action number = rw (← r, ← rule.acts) o in
      let gives : as_write g ≡ write_for (slot_for_entry ks) (next_entry (policy_view policy) ks key number) =
      w ∙ rw (r, s, pattern, rule.acts)
      in
      record {
        outcome = told ∙ entry-struct ks (slot_for_entry ks) (rule_at pol number).action number (rw r at slot) (rule-told rule);
        write = rw (t, gives);
        inside = some-inside t (omega (arith, ap (λ (v : Write). v.slot) w, slot-inside whole r));
      }
