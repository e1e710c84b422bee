-- Laws of slots, for every width: decoding and encoding undo each other, and to put a slot into the bytes is to set it in the list.
-- Assumes nothing.
use Prim.Native.Nat.{ℕ, ◌+◌, ◌*◌, ◌<◌, ◌≤◌}
use mathlib.Core.Path.{◌≡◌, refl, ap, ◌∙◌}
use mathlib.Core.List.{List, [], ◌∷◌, ◌++◌}
use native.Mathlib.Omega.{arith}
use lib.ListN.{length, take, drop, set, length-append}
use Rattle.model.specs.Bits.{Bytes}
use Rattle.ends.specs.Records.{Slot, slot_at, cleared}
use Rattle.buffers.specs.BigEndian.{be, to_be}
use Rattle.buffers.specs.Parts.{spelled}
use Rattle.buffers.proofs.PartLaws.{length-splice}
use Rattle.buffers.proofs.BigEndianLaws.{be-to_be}
use Rattle.buffers.proofs.FieldLaws.{drop_past, part-past, byte_past, value_there, mask-there, after-rows, part_then, number-then, pair-last}
use Rattle.buffers.proofs.RecordLaws.{records-count, records-at, records-put, records-spell}
use Rattle.records.specs.Layout.{slot_sequence, slot_hits, slot_value, slot_mask, slot_action, slot_rule, slot_settled, slot_size}
use Rattle.end_records.specs.Slots.{decode_slot, encode_slot, SlotFits, slot_in, slots, put_slot}
use Rattle.records.specs.SlotBuffers.{slot_count}

-- slots with the same fields are the same
same-slot : {a b : Slot} → a.sequence ≡ b.sequence → a.hits ≡ b.hits → a.value ≡ b.value → a.mask ≡ b.mask
    → a.action ≡ b.action → a.rule ≡ b.rule → a.settled ≡ b.settled → a.spare ≡ b.spare → a ≡ b
same-slot p q r s t u v x i =
    record { sequence = p i; hits = q i; value = r i; mask = s i; action = t i; rule = u i; settled = v i; spare = x i }

-- what was encoded is decoded
module _ (w : ℕ) (x : Slot) (f : SlotFits w x) where
  abbrev numbers : List ℕ
  numbers = to_be 2 x.action ++ (to_be 2 x.rule ++ (x.settled ∷ x.spare ∷ []))

  abbrev bytes : List ℕ
  bytes = to_be 4 x.sequence ++ (to_be 4 x.hits ++ (x.value ++ (x.mask ++ numbers)))

  after : drop (slot_action w) bytes ≡ numbers
  after = after-rows w slot_value bytes x.value x.mask numbers refl f.value-long f.mask-long

  after-action : drop (slot_rule w) bytes ≡ drop 2 numbers
  after-action = drop_past bytes (slot_action w) after 2

  after-rule : drop (slot_settled w) bytes ≡ x.settled ∷ x.spare ∷ []
  after-rule = drop_past bytes (slot_rule w) after-action 2

  pub decode-encode-slot : decode_slot w (encode_slot x) ≡ x
  unfolding decode_slot encode_slot
  decode-encode-slot =
      same-slot
      (be-to_be 4 x.sequence f.sequence-fits)
      (be-to_be 4 x.hits f.hits-fits)
      (value_there w slot_value bytes x.value x.mask numbers refl f.value-long f.mask-long)
      (mask-there w slot_value bytes x.value x.mask numbers refl f.value-long f.mask-long)
      (ap (λ (s : List ℕ). be (take 2 s)) after ∙ be-to_be 2 x.action f.action-fits)
      (ap be (part-past bytes (slot_action w) after 2 2) ∙ be-to_be 2 x.rule f.rule_fits)
      (byte_past bytes (slot_rule w) after-action 2)
      (byte_past bytes (slot_settled w) after-rule 1)

pub length-encode-slot : (w : ℕ) (x : Slot) → SlotFits w x → length (encode_slot x) ≡ slot_size w
unfolding encode_slot
length-encode-slot w x f = simp (length-append, f.value-long, f.mask-long) (omega arith)

-- what was decoded is encoded
pub encode-decode-slot : (w : ℕ) (c : List ℕ) → length c ≡ slot_size w → Bytes c → encode_slot (decode_slot w c) ≡ c
unfolding decode_slot encode_slot
encode-decode-slot w c l h =
    number-then c 4 slot_sequence h (omega arith)
    (number-then c 4 slot_hits h (omega arith)
    (part_then c w slot_value
    (part_then c w (slot_mask w)
    (number-then c 2 (slot_action w) h (omega arith)
    (number-then c 2 (slot_rule w) h (omega arith)
    (pair-last c (slot_settled w) refl refl (omega arith)))))))

-- ---- the slots of a buffer

pub slot-count : (w : ℕ) (bs : List ℕ) → length (slots w bs) ≡ slot_count w bs
unfolding slots
slot-count w bs = records-count (slot_size w) (decode_slot w) (slot_count w bs) bs

pub slot-at : (w : ℕ) (bs : List ℕ) (i : ℕ) → i < slot_count w bs → slot_at (slots w bs) i ≡ slot_in w bs i
unfolding slots
slot-at w bs i l = records-at (slot_size w) (decode_slot w) (cleared 0) (slot_count w bs) bs i l

-- to put a slot is to set it, and to leave the others
module _
    (w : ℕ) (bs : List ℕ) (i : ℕ) (x : Slot)
    (below : i < slot_count w bs) (fits : slot_size w * i + slot_size w ≤ length bs) (f : SlotFits w x) where
  pub length-put-slot : length (put_slot w bs i x) ≡ length bs
  length-put-slot = length-splice (slot_size w * i) (encode_slot x) bs (omega (arith, length-encode-slot w x f))

  pub slots-put : slots w (put_slot w bs i x) ≡ set (slots w bs) i x
  unfolding slots
  slots-put =
      rw length-put-slot
      (records-put (slot_size w) (decode_slot w) (slot_count w bs) bs i (encode_slot x) below (length-encode-slot w x f) fits
      ∙ ap (set (slots w bs) i) (decode-encode-slot w x f))

-- the slots of a buffer of whole slots say every byte of it
pub slots-spell : (w : ℕ) (bs : List ℕ) → length bs ≡ slot_size w * slot_count w bs → Bytes bs → spelled encode_slot (slots w bs) ≡ bs
unfolding slots
slots-spell w bs l h = records-spell (slot_size w) (decode_slot w) encode_slot (encode-decode-slot w) (slot_count w bs) bs l h
