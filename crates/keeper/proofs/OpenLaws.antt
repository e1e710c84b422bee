-- The open slots: the loop that lists them, and each way out of the call. Assumes nothing.
use Rattle.std.specs.Prelude.{None, Some, Result, Err}
use mathlib.Core.Path.{◌≡◌, sym, ◌∙◌}
use mathlib.Core.Bool.{Bool, true, false}
use mathlib.Core.List.{List, [], ◌∷◌, ◌++◌}
use Prim.Native.Nat.{ℕ, ◌+◌, ◌≤◌}
use native.Mathlib.Omega.{arith}
use native.Mathlib.Numerals.{add-one}
use lib.Dec.{ltb}
use lib.ListN.{length}
use Rattle.ends.specs.Records.{slot_at}
use Rattle.ends.specs.Ends.{is_open, open_list}
use Rattle.model.specs.Below.{list_below}
use Rattle.checks.specs.declared.refusal.Refusal.{Refusal}
use Rattle.model.proofs.OrderLaws.{list-more}
use Rattle.ternary.specs.Sizes.{key_size}
use Rattle.records.specs.Layout.{most_slots}
use Rattle.end_records.specs.Slots.{slots}
use Rattle.records.specs.SlotBuffers.{slot_count}
use Rattle.checks.specs.BufferRefusals.{slots_refusal}
use Rattle.end_records.proofs.SlotLaws.{slot-count}
use Rattle.checks.proofs.FitLaws.{slots-accepted}
use Rattle.lists.specs.Answers.{Answered}
use Rattle.lists.proofs.GatherLaws.{listed-few, listed-passed, listed-all}
use Rattle.keeper.specs.Opens.{open_in, open_refusal, Opened}

-- slot i is open
abbrev open_at : List ℕ → ℕ → Bool
open_at keeper i = is_open (slot_at (slots key_size keeper) i)

-- ---- a loop over the slots: xs are the numbers of the open slots below i

module _ (keeper : List ℕ) (i : ℕ) {xs : List ℕ} (is : xs ≡ list_below (open_at keeper) i) where
  pub open-few : length xs ≤ i
  open-few = rw is (listed-few (open_at keeper) ltb i)

  pub open-passed : {b : Bool} → b ≡ open_at keeper i → b ≡ false → xs ≡ list_below (open_at keeper) (i + 1)
  open-passed t u = is ∙ listed-passed (open_at keeper) ltb t u

  pub open-taken : {b : Bool} → b ≡ open_at keeper i → b ≡ true → xs ++ (i ∷ []) ≡ list_below (open_at keeper) (i + 1)
  open-taken t u = rw (is, add-one i) (sym (list-more (open_at keeper) i (sym t ∙ u)))

  pub open_done : i ≡ slot_count key_size keeper → xs ≡ open_in keeper
  unfolding open_list
  open_done e = listed-all (open_at keeper) ltb is (omega (arith, slot-count key_size keeper))

-- ---- the list is no longer than the keeper

pub list-few : (keeper : List ℕ) → length (open_in keeper) ≤ slot_count key_size keeper
unfolding open_list
list-few keeper = omega (arith, listed-few (open_at keeper) ltb (length (slots key_size keeper)), slot-count key_size keeper)

-- ---- each way out

pub few-slots : (keeper : List ℕ) → slots_refusal keeper ≡ None → slot_count key_size keeper ≤ most_slots
few-slots keeper fine = ((slots-accepted keeper).0 fine).few-there

module _ (keeper out : List ℕ) where
  pub refused-slots : {r : Refusal} → slots_refusal keeper ≡ Some r → Opened keeper out (Err r) out
  unfolding open_refusal
  refused-slots bad = record { answer = rw bad; out-after = rw bad }

  pub opened-list : {xs : List ℕ} {r : Result ℕ Refusal} {out' : List ℕ} → slots_refusal keeper ≡ None → xs ≡ open_in keeper
      → Answered xs out r out' → Opened keeper out r out'
  unfolding open_refusal
  opened-list fine list a =
      let told = rw list at a in
      record { answer = rw fine told.answer; out-after = rw fine told.out-after }
