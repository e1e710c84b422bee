-- What a miss asks of the keeper's slots: the loops that find it. Assumes nothing.
use mathlib.Core.Path.{◌≡◌, refl, sym, ◌∙◌}
use mathlib.Core.Bool.{Bool, true, false}
use mathlib.Core.List.{List}
use Rattle.std.specs.Prelude.{Some, Option, None}
use Prim.Native.Nat.{ℕ, ◌+◌, ◌<◌, max}
use native.Mathlib.Omega.{arith}
use native.Mathlib.Numerals.{add-one}
use lib.ListN.{length, drop}
use lib.Seq.{drop-cons, drop-length}
use Rattle.model.specs.Below.{ahead, foremost}
use Rattle.ends.specs.Records.{Slot, slot_at, cleared}
use Rattle.ends.specs.Ends.{largest, given_up_before, given_up, slot_for_entry}
use Rattle.model.proofs.OrderLaws.{foremost-next}
use Rattle.ternary.specs.Sizes.{key_size}
use Rattle.end_records.specs.Slots.{slots}
use Rattle.records.specs.SlotBuffers.{slot_count}
use Rattle.end_records.proofs.SlotLaws.{slot-count}
use Rattle.slots.specs.Choose.{first_empty}

module _ (bs : List ℕ) where
  abbrev k : List Slot
  k = slots key_size bs

  -- ---- the largest sequence

  -- the largest so far and what is left make up the largest
  pub record MostSoFar (i most : ℕ) : Type 0 where
    pub left : max most (largest (drop i k)) ≡ largest k

  pub most-none : MostSoFar 0 0
  most-none = record { left = omega arith }

  pub most-more : {i most its more : ℕ} → MostSoFar i most → i < slot_count key_size bs → its ≡ (slot_at k i).sequence → more ≡ max most its
      → MostSoFar (i + 1) more
  unfolding largest
  most-more {i} is l e m =
      let next : largest (drop i k) ≡ max (slot_at k i).sequence (largest (drop (i + 1) k)) =
      rw (add-one, drop-cons k i (cleared 0) (omega (arith, slot-count key_size bs)))
      in
      record { left = omega (arith, is.left, next) }

  pub most-done : {i most : ℕ} → MostSoFar i most → i ≡ slot_count key_size bs → most ≡ largest k
  unfolding largest
  most-done {i} is e =
      let n : i ≡ length k = e ∙ sym (slot-count key_size bs) in
      let none_left : largest (drop i k) ≡ 0 = rw (n, drop-length k) in
      omega (arith, is.left, none_left)

  -- ---- the slot that is given up

  abbrev order : ℕ → ℕ → Bool
  order a b = given_up_before (slot_at k a) (slot_at k b)

  -- of the slots below i the one that is given up first
  pub record FirstSoFar (i best : ℕ) : Type 0 where
    pub so_far : foremost (λ j. true) order i ≡ Some best
    pub low : best < i

  pub first_slot : FirstSoFar 1 0
  unfolding foremost ahead
  first_slot = record { so_far = refl; low = omega arith }

  module _ {i best : ℕ} {b : Bool} (is : FirstSoFar i best) (e : b ≡ order i best) where
    pub first-kept : b ≡ false → FirstSoFar (i + 1) best
    unfolding ahead
    first-kept t =
        record { so_far = foremost-next (λ j. true) order i ∙ rw (is.so_far, sym e ∙ t); low = omega (arith, is.low) }

    pub first_taken : b ≡ true → FirstSoFar (i + 1) i
    unfolding ahead
    first_taken t = record { so_far = foremost-next (λ j. true) order i ∙ rw (is.so_far, sym e ∙ t); low = omega arith }

  pub first_done : {i best : ℕ} → FirstSoFar i best → i ≡ slot_count key_size bs → best ≡ given_up k
  unfolding given_up
  first_done is e = rw (slot-count key_size bs, ← e, is.so_far)

  -- ---- the slot for a new entry

  pub entry-empty : {h : Option ℕ} {i : ℕ} → h ≡ first_empty k → h ≡ Some i → i ≡ slot_for_entry k
  unfolding slot_for_entry
  entry-empty {h} {i} e t = rw (sym e ∙ t)

  pub entry-given-up : {h : Option ℕ} {i : ℕ} → h ≡ first_empty k → h ≡ None → i ≡ given_up k → i ≡ slot_for_entry k
  unfolding slot_for_entry
  entry-given-up {h} e t g = rw (sym e ∙ t) g
