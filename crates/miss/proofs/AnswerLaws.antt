-- A decision carried out is the miss's answer, and each way out of the calls. Assumes nothing.
use mathlib.Core.Path.{◌≡◌, refl}
use mathlib.Core.List.{List}
use Rattle.std.specs.Prelude.{Option, Result, Ok, Err, ⊤}
use Prim.Native.Nat.{ℕ}
use lib.ListN.{length}
use Rattle.ends.specs.Records.{Slot}
use Rattle.ends.specs.Ends.{Miss, no_rule, again, new_entry, used_up, miss_keeper, miss_write}
use Rattle.ternary.specs.Sizes.{key_size}
use Rattle.checks.specs.Refusals.{verdict_of}
use Rattle.checks.specs.declared.refusal.Refusal.{Refusal}
use Rattle.checks.proofs.RefusalLaws.{verdict-refused, verdict-fine}
use Rattle.end_records.specs.Slots.{slots}
use Rattle.policy.proofs.CheckLaws.{passed-few}
use Rattle.policy.specs.Lent.{lent_refusal}
use Rattle.policy.proofs.LentLaws.{parts-fine}
use Rattle.miss.specs.Decision.{policy_view, DecidedAs}
use Rattle.miss.specs.Decide.{FineMiss}
use Rattle.miss.specs.Carry.{short_for_write, bytes_with, slots_with, CarriedOut}
use Rattle.records.specs.declared.outcome.Outcome.{Outcome as OutcomeStruct}
use Rattle.miss.proofs.OutcomeLaws.{again-given, entry-given}
use Rattle.miss.specs.Answers.{miss_refused, miss_bytes, MissedAs, OnMiss, Missed}
use Rattle.miss.specs.declared.decision.Decision.{Decision}

-- ---- the parts that are lent

module _ (policy key keeper : List ℕ) where
  pub missed-refused : (out : List ℕ) {r : Refusal} {a : Result ⊤ Refusal} → a ≡ verdict_of (lent_refusal policy key keeper) → a ≡ Err r
      → Missed policy key keeper out (Err r) keeper out
  unfolding miss_refused
  missed-refused out e t =
      let refused = verdict-refused (lent_refusal policy key keeper) e t in
      record { answer = rw refused; keeper-after = rw refused; meaning = rw refused; out-after = rw refused }

  pub fine_of : {a : Result ⊤ Refusal} → a ≡ verdict_of (lent_refusal policy key keeper) → a ≡ (Ok tt) → FineMiss policy key keeper
  fine_of e t =
      let fine = parts-fine policy key keeper (verdict-fine (lent_refusal policy key keeper) e t) in
      record { few = passed-few policy fine.accepted; long = fine.long; whole = fine.whole }

-- ---- so it is the miss's answer

module _ (policy keeper out : List ℕ) {d : Decision} {r : Result OutcomeStruct Refusal} {keeper' out' : List ℕ}
    (c : CarriedOut d keeper out r keeper' out') where
  abbrev k : List Slot
  k = slots key_size keeper

  abbrev n : ℕ
  n = d.outcome.outcome

  module _ (m : Miss) (is : DecidedAs policy keeper m d) where
    abbrev refused : Option Refusal
    refused = short_for_write (miss_write k m) (length out)

    missed-by : bytes_with n (miss_write k m) keeper ≡ miss_bytes keeper m → slots_with n (miss_write k m) k ≡ miss_keeper k m
        → MissedAs policy keeper m refused out r keeper' out'
    missed-by bytes meaning =
        record {
          answer = rw (← is.write, ← is.outcome) c.answer;
          keeper-after = rw (is.write, bytes) at c.keeper-after;
          meaning = rw (is.write, meaning) at c.meaning;
          out-after = rw is.write at c.out-after;
        }

  pub missed-as : (m : Miss) → DecidedAs policy keeper m d
      → MissedAs policy keeper m (short_for_write (miss_write k m) (length out)) out r keeper' out'
  missed-as no_rule is = missed-by no_rule is refl refl
  missed-as (again i) is =
      let h = again-given (policy_view policy) k d.outcome i is.outcome in
      missed-by (again i) is (rw h.1) (rw h.1)
  missed-as (new_entry i x) is =
      let h = entry-given (policy_view policy) k d.outcome i x is.outcome in
      missed-by (new_entry i x) is (rw h.1) (rw h.1)
  missed-as (used_up rule) is = missed-by (used_up rule) is refl refl

-- a call whose parts are fine is the call without its checks
pub missed : (policy key keeper out : List ℕ) {a : Result ⊤ Refusal} {r : Result OutcomeStruct Refusal} {keeper' out' : List ℕ}
    → a ≡ verdict_of (lent_refusal policy key keeper) → a ≡ (Ok tt) → OnMiss policy key keeper out r keeper' out' → Missed policy key keeper out r keeper' out'
unfolding miss_refused
missed policy key keeper out e t is = rw (verdict-fine (lent_refusal policy key keeper) e t) is
