-- What a decision about slot i comes to. Assumes nothing.
use mathlib.Core.Path.{◌≡◌, refl, sym, ◌∙◌}
use mathlib.Core.List.{List}
use mathlib.Core.Logic.{◌≢◌}
use Rattle.std.specs.Prelude.{Option, None, Some}
use Prim.Native.Nat.{ℕ, ◌≤◌, ◌<◌}
use native.Mathlib.Omega.{arith}
use borrow.Author.Tests.{eq-eqb, ne_eqb}
use Rattle.ends.specs.Records.{Slot, slot_at}
use Rattle.ends.specs.Ends.{again}
use Rattle.ternary.specs.Sizes.{key_size}
use Rattle.end_records.specs.Slots.{slot_in, slots}
use Rattle.records.specs.SlotBuffers.{slot_count}
use Rattle.records.specs.Layout.{most_slots}
use Rattle.records.specs.Outcomes.{unless_nothing}
use Rattle.records.proofs.OutcomeLaws.{some-number, nothing-none}
use Rattle.end_records.proofs.SlotLaws.{slot-at}
use Rattle.miss.specs.Decision.{DecidedAs, entry_outcome}
use Rattle.miss.proofs.GivenLaws.{some-inside}

module _ (keeper : List ℕ) {i : ℕ} {old : Slot} (l : i < slot_count key_size keeper) (is : old ≡ slot_in key_size keeper i) where
  abbrev k : List Slot
  k = slots key_size keeper

  there : slot_at k i ≡ old
  there = slot-at key_size keeper i l ∙ sym is

  -- its write again
  pub again-decided : {rule : Option ℕ} → slot_count key_size keeper ≤ most_slots → rule ≡ unless_nothing old.rule
      → (policy : List ℕ) → DecidedAs policy keeper (again i)
      (record {
        outcome = record { outcome = 5; action = old.action; rule = rule; slot = Some i; evicted = None };
        write = Some (record {
          slot = i;
          sequence = old.sequence;
          pattern = record { value = old.value; mask = old.mask };
          action = old.action;
          rule = old.rule;
        });
      })
  again-decided few e policy =
      record { outcome = rw (there, some-number i (omega arith), nothing-none, e); write = rw there; inside = some-inside refl l }

  -- an entry written to it
  pub placed-empty : {action rule : ℕ} → old.sequence ≡ 0
      → record { outcome = 2; action = action; rule = Some rule; slot = Some i; evicted = None } ≡ entry_outcome k i action rule
  placed-empty e = rw (there, eq-eqb old.sequence 0 e)

  pub placed-over : {action rule : ℕ} {evicted : Option ℕ} → old.sequence ≢ 0 → evicted ≡ unless_nothing old.rule
      → record { outcome = 3; action = action; rule = Some rule; slot = Some i; evicted = evicted } ≡ entry_outcome k i action rule
  placed-over n e = rw (there, ne_eqb old.sequence 0 n, e)
