-- The search for the first slot that takes a key, and what its answer says. Assumes nothing.
use mathlib.Core.Path.{◌≡◌, sym}
use mathlib.Core.Bool.{Bool, true, false}
use mathlib.Core.List.{List}
use Rattle.std.specs.Prelude.{Option, None, Some, MatchOption}
use Prim.Native.Nat.{ℕ, ◌≤◌, ◌<◌}
use native.Mathlib.Omega.{arith}
use lib.ListN.{length}
use Rattle.ends.specs.Ends.{Key, holds, first_for}
use Rattle.model.specs.Below.{first_below}
use Rattle.model.proofs.OrderLaws.{first_found, first-missed}
use Rattle.ends.proofs.Slots.{found}
use Rattle.ternary.specs.Sizes.{key_size, positions}
use Rattle.records.specs.Layout.{most_slots}
use Rattle.end_records.specs.Slots.{slots}
use Rattle.records.specs.SlotBuffers.{slot_count, WholeSlots}
use Rattle.end_records.proofs.SlotLaws.{slot-count}

-- ---- the first of a buffer's slots

-- what a search of the numbers below n may give: none of which f holds, or the first of which it does
abbrev pub FirstOf : (ℕ → Bool) → ℕ → Option ℕ → Type 0
FirstOf f n r =
    MatchOption r ((k : ℕ) → 0 ≤ k → k < n → f k ≡ false)
    (λ i. (0 ≤ i) × (i < n) × (f i ≡ true) × ((k : ℕ) → 0 ≤ k → k < i → f k ≡ false))

first-of : (f : ℕ → Bool) (n : ℕ) (r : Option ℕ) → FirstOf f n r → r ≡ first_below f n
first-of f n None h = sym (first-missed f n n (record { at = λ k l. h k (omega arith) l }) (omega arith))
first-of f n (Some i) h = sym (first_found f n i (record { at = λ k l. h.3 k (omega arith) l }) h.1 h.2)

module _ (bs : List ℕ) {r : Option ℕ} where
  -- so of a buffer's slots
  pub first-slot : (f : ℕ → Bool) → FirstOf f (slot_count key_size bs) r → r ≡ first_below f (length (slots key_size bs))
  first-slot f h = rw (slot-count key_size bs) (first-of f _ r h)

  pub first-for-key : (key : Key) → FirstOf (holds positions (slots key_size bs) key) (slot_count key_size bs) r
      → r ≡ first_for positions (slots key_size bs) key
  unfolding first_for
  first-for-key key h = first-slot (holds positions (slots key_size bs) key) h

-- ---- for its callers

-- a slot that takes the key is one of the buffer, which has few where its slots are whole
module _ (bs : List ℕ) (key : Key) (i : ℕ) (e : first_for positions (slots key_size bs) key ≡ Some i) where
  pub held_below : i < slot_count key_size bs
  held_below = omega (arith, (found positions (slots key_size bs) key i e).inside, slot-count key_size bs)

  pub held-few : WholeSlots bs → i < most_slots
  held-few whole = omega (arith, held_below, whole.few-there)
