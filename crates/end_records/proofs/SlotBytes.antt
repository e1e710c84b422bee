-- Lists of slots that bytes can hold: a buffer's slots are such a list, it stays one when a slot is replaced, and it is spelled by bytes that
-- mean it. Assumes nothing.
use mathlib.Core.Path.{◌≡◌, refl, ap, ◌∙◌}
use mathlib.Core.List.{List, [], ◌∷◌}
use Prim.Native.Nat.{ℕ, zero, suc, ◌*◌, ◌^◌, ◌<◌}
use native.Mathlib.Decide.{ℕ_discrete}
use native.Mathlib.Omega.{arith}
use lib.Dec.{ltb}
use lib.ListN.{length, set, length-set, length-append, get_or-eq_default}
use lib.Seq.{get_or-set_same, get_or-set_other}
use borrow.Author.Tests.{ltb-true, ltb-false}
use Rattle.model.specs.Bits.{Bytes}
use Rattle.ends.specs.Records.{Slot, cleared, slot_at}
use Rattle.model.proofs.Cases.{by_cases}
use Rattle.ternary.specs.Sizes.{key_size}
use Rattle.buffers.specs.Parts.{records_in, spelled}
use Rattle.buffers.proofs.ByteLaws.{byte-none, append-bytes}
use Rattle.buffers.proofs.RowLaws.{records-cons}
use Rattle.records.specs.Layout.{slot_size}
use Rattle.end_records.specs.Slots.{decode_slot, encode_slot, slots}
use Rattle.records.specs.SlotBuffers.{slot_count, WholeSlots}
use Rattle.end_records.proofs.SlotLaws.{slot-count, slot-at, decode-encode-slot, length-encode-slot, slots-spell}
use Rattle.end_records.proofs.ByteSlots.{ByteSlot, slot-byte, encode-bytes}
use Rattle.records.proofs.SlotBufferLaws.{as-whole}

-- so many slots, each of which bytes can hold
pub record ByteSlots (count : ℕ) (s : List Slot) : Type 0 where
  pub long : length s ≡ count
  pub each : (i : ℕ) → i < count → ByteSlot key_size (slot_at s i)

pub slots-byte : (bs : List ℕ) → WholeSlots bs → Bytes bs → ByteSlots (slot_count key_size bs) (slots key_size bs)
slots-byte bs whole h =
    record {
      long = slot-count key_size bs;
      each = λ i l. rw (slot-at key_size bs i l) (slot-byte key_size bs i (omega (arith, whole.whole)) h);
    }

-- one slot is another; where there is no such slot, none is
pub set-byte : {count : ℕ} {s : List Slot} → ByteSlots count s → (i : ℕ) (x : Slot) → (i < count → ByteSlot key_size x) → ByteSlots count (set s i x)
set-byte {count} {s} h i x new = record { long = length-set s i x ∙ h.long; each = λ j l. go j l (ℕ_discrete j i) }
  where
    go : (j : ℕ) → j < count → Dec (j ≡ i) → ByteSlot key_size (slot_at (set s i x) j)
    go j l (yes e) = rw (e, get_or-set_same s i x (cleared 0) (omega (arith, h.long))) (new (omega arith))
    go j l (no d) = rw (get_or-set_other s i j x (cleared 0) d) (h.each j l)

-- the hits that a slot reads as, past the end too
pub hits-low : {count : ℕ} {s : List Slot} → ByteSlots count s → (i : ℕ) → (slot_at s i).hits < 2 ^ 32
hits-low {count} {s} h i =
    by_cases (ltb i count)
    (λ e. (h.each i (ltb-true i count e)).fits.hits-fits)
    (λ e. rw (get_or-eq_default s (cleared 0) {n = i} (omega (arith, h.long, ltb-false i count e))) (omega arith))

-- ---- what they spell

tail-byte : {count : ℕ} {x : Slot} {s : List Slot} → ByteSlots (suc count) (x ∷ s) → ByteSlots count s
tail-byte h = record { long = omega (arith, h.long); each = λ i l. h.each (suc i) (omega arith) }

pub spelled-long : (count : ℕ) (s : List Slot) → ByteSlots count s → length (spelled encode_slot s) ≡ slot_size key_size * count
unfolding spelled
spelled-long zero [] h = refl
spelled-long (suc count) [] h = absurd (omega (arith, h.long))
spelled-long zero (x ∷ s) h = absurd (omega (arith, h.long))
spelled-long (suc count) (x ∷ s) h =
    length-append (encode_slot x) (spelled encode_slot s)
    ∙ omega (arith, length-encode-slot key_size x (h.each 0 (omega arith)).fits, spelled-long count s (tail-byte h))

pub spelled-bytes : (count : ℕ) (s : List Slot) → ByteSlots count s → Bytes (spelled encode_slot s)
unfolding spelled
spelled-bytes count [] h = byte-none
spelled-bytes zero (x ∷ s) h = absurd (omega (arith, h.long))
spelled-bytes (suc count) (x ∷ s) h =
    append-bytes (encode_slot x) (spelled encode_slot s) (encode-bytes key_size x (h.each 0 (omega arith))) (spelled-bytes count s (tail-byte h))

records-back : (count : ℕ) (s : List Slot) → ByteSlots count s
    → records_in (slot_size key_size) (decode_slot key_size) count (spelled encode_slot s) ≡ s
unfolding spelled records_in
records-back zero [] h = refl
records-back (suc count) [] h = absurd (omega (arith, h.long))
records-back zero (x ∷ s) h = absurd (omega (arith, h.long))
records-back (suc count) (x ∷ s) h =
    let fits = (h.each 0 (omega arith)).fits in
    records-cons (slot_size key_size) (decode_slot key_size) (encode_slot x) (spelled encode_slot s) (length-encode-slot key_size x fits) count
    ∙ ap (λ (y : Slot). y ∷ records_in (slot_size key_size) (decode_slot key_size) count (spelled encode_slot s)) (decode-encode-slot key_size x fits)
    ∙ ap (λ (l : List Slot). x ∷ l) (records-back count s (tail-byte h))

pub spelled-slots : (count : ℕ) (s : List Slot) → ByteSlots count s → slots key_size (spelled encode_slot s) ≡ s
unfolding slots
spelled-slots count s h =
    let n : slot_count key_size (spelled encode_slot s) ≡ count = omega (arith, spelled-long count s h) in
    rw n (records-back count s h)

-- bytes as long as whole slots are spelled by their slots
pub spelled_back : {a : List ℕ} (b : List ℕ) → length b ≡ length a → WholeSlots a → Bytes b → spelled encode_slot (slots key_size b) ≡ b
spelled_back b e whole h = let w : WholeSlots b = as-whole e whole in slots-spell key_size b w.whole h
