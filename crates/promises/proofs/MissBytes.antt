-- What a miss places in the keeper and gives is what bytes can hold. Assumes nothing.
use mathlib.Core.Path.{◌≡◌, refl, ◌∙◌}
use mathlib.Core.Bool.{Bool, true, false}
use mathlib.Core.List.{List}
use Rattle.std.specs.Prelude.{Option, None, Some}
use Prim.Native.Nat.{ℕ, ◌+◌, ◌*◌, ◌^◌, ◌≤◌, ◌<◌}
use native.Mathlib.Omega.{arith}
use lib.Dec.{ltb, eqb}
use lib.ListN.{length}
use borrow.Author.Tests.{eqb-false, ltb-true, ltb-false}
use Rattle.model.specs.Bits.{Bytes, bit_at}
use Rattle.ends.specs.Records.{Slot, write_for, written, entry_of, slot_at}
use Rattle.model.specs.Policy.{Rule, rule_at, best}
use Rattle.model.specs.Isolate.{isolated_at, isolate}
use Rattle.ends.specs.Ends.{Key, first_for, last_sequence, largest, slot_for_entry, Miss, no_rule, again}
use Rattle.ends.specs.Ends.{new_entry, used_up, miss_of, next_entry, on_miss}
use Rattle.model.proofs.Cases.{by_cases}
use Rattle.model.proofs.BitLaws.{bit-lt, length-with}
use Rattle.model.proofs.PolicyLaws.{best-inside}
use Rattle.ends.proofs.Slots.{found, largest-le, slot-for-entry-lt, live_inside}
use Rattle.ternary.specs.Sizes.{key_size, positions}
use Rattle.buffers.proofs.PartLaws.{part_bytes}
use Rattle.buffers.proofs.ByteLaws.{fixed-bytes, two-below}
use Rattle.records.specs.Layout.{rule_size, rule_value, rule_mask, rule_action}
use Rattle.records.specs.Rules.{rule_count, rules}
use Rattle.records.proofs.RuleLaws.{rule-count, value-in-place, mask-in-place, action-in-place}
use Rattle.records.specs.SlotBuffers.{slot_count, WholeSlots}
use Rattle.end_records.proofs.ByteSlots.{ByteSlot}
use Rattle.end_records.proofs.SlotBytes.{ByteSlots}
use Rattle.policy.specs.Refusals.{AcceptedBytes}
use Rattle.miss.specs.Decision.{policy_view}
use Rattle.promises.proofs.MessageBytes.{ByteWrite}

-- ---- the slots of an end

module _ {count : ℕ} {k : List Slot} (h : ByteSlots count k) where
  sequence-low : (i : ℕ) → (slot_at k i).sequence ≤ last_sequence
  sequence-low i =
      by_cases (ltb 0 (slot_at k i).sequence)
      (λ t. let l : i < count = omega (arith, live_inside k i (ltb-true 0 _ t), h.long) in
      omega (arith, (h.each i l).fits.sequence-fits))
      (λ t. omega (arith, ltb-false 0 (slot_at k i).sequence t))

  largest-low : largest k ≤ last_sequence
  largest-low = largest-le k last_sequence sequence-low

  -- a slot that takes a key is one of them
  pub held-inside : (key : Key) (i : ℕ) → first_for positions k key ≡ Some i → i < count
  held-inside key i e = omega (arith, (found positions k key i e).inside, h.long)

-- the write of a slot that bytes can hold
pub write-there : (bs : List ℕ) → WholeSlots bs → (i : ℕ) (x : Slot) → i < slot_count key_size bs → ByteSlot key_size x
    → ByteWrite (write_for i (entry_of x))
write-there bs whole i x l b =
    record {
      fits = record {
        slot-fits = omega (arith, whole.few-there);
        sequence-fits = b.fits.sequence-fits;
        value-long = b.fits.value-long;
        mask-long = b.fits.mask-long;
        action-fits = b.fits.action-fits;
        rule_fits = b.fits.rule_fits;
      };
      value-bytes = b.value-bytes;
      mask-bytes = b.mask-bytes;
    }

-- ---- what a miss comes to

-- the slot that it names is one of the keeper's, of which there are so many, and the entry that it places is one that bytes can hold
abbrev pub MissFits : ℕ → Miss → Type 0
MissFits count no_rule = Unit {0}
MissFits count (again i) = i < count
MissFits count (new_entry i e) = (i < count) × ByteSlot key_size (written e)
MissFits count (used_up r) = Unit {0}

module _ (policy : List ℕ) (h : Bytes policy) (is : AcceptedBytes policy) where
  abbrev pol : List Rule
  pol = rules key_size policy

  module _ (r : ℕ) (l : r < rule_count key_size policy) where
    value-bytes : Bytes (rule_at pol r).value
    value-bytes = rw (value-in-place key_size policy r l) (part_bytes key_size (rule_size key_size * r + rule_value) policy h)

    mask-bytes : Bytes (rule_at pol r).mask
    mask-bytes = rw (mask-in-place key_size policy r l) (part_bytes key_size (rule_size key_size * r + rule_mask key_size) policy h)

    action-low : (rule_at pol r).action < 2 ^ 16
    action-low =
        rw (action-in-place key_size policy r l)
        (two-below (rule_size key_size * r + rule_action key_size) policy h (omega (arith, is.whole)))

  module _ {count : ℕ} (ks : List Slot) (b : ByteSlots count ks) (one : 1 ≤ count) (key : List ℕ) where
    next-byte : (r : ℕ) → best positions pol key ≡ Some r → eqb (largest ks) last_sequence ≡ false
        → ByteSlot key_size (written (next_entry (policy_view policy) ks key r))
    unfolding isolate isolated_at
    next-byte r e u =
        let inside : r < length pol = best-inside pol positions key r e in
        let l : r < rule_count key_size policy = omega (arith, rule-count key_size policy) in
        record {
          fits = record {
            sequence-fits = omega (arith, largest-low b, eqb-false (largest ks) last_sequence u);
            hits-fits = omega arith;
            value-long = length-with (bit_at key) _ _ ∙ is.accepted.value-long r inside;
            mask-long = length-with (λ p. 1) _ _ ∙ is.accepted.mask-long r inside;
            action-fits = action-low r l;
            rule_fits = omega (arith, is.accepted.few);
          };
          value-bytes = fixed-bytes (bit_at key) (bit-lt key) _ _ (value-bytes r l);
          mask-bytes = fixed-bytes (λ p. 1) (λ p. omega arith) _ _ (mask-bytes r l);
          settled-byte = omega arith;
          spare-byte = omega arith;
        }

    fits-of : (found-best at : Option ℕ) (used : Bool) → best positions pol key ≡ found-best → first_for positions ks key ≡ at
        → eqb (largest ks) last_sequence ≡ used
        → MissFits count (miss_of found-best at used (slot_for_entry ks) (next_entry (policy_view policy) ks key))
    fits-of None at used e f u = tt
    fits-of (Some r) (Some i) used e f u = held-inside b key i f
    fits-of (Some r) None true e f u = tt
    fits-of (Some r) None false e f u =
        (omega (arith, slot-for-entry-lt ks (omega (arith, b.long)), b.long), next-byte r e u)

    pub miss-fits : MissFits count (on_miss positions (policy_view policy) ks key)
    unfolding on_miss
    miss-fits = fits-of (best positions pol key) (first_for positions ks key) (eqb (largest ks) last_sequence) refl refl refl
