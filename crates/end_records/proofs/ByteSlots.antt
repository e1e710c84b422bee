-- Slots that bytes can hold: what is decoded from bytes is one, and one that is put into a buffer leaves it a buffer of bytes. For every width.
-- Assumes nothing.
use mathlib.Core.Path.{◌≡◌, refl, sym, ap, ◌∙◌}
use mathlib.Core.List.{List}
use Prim.Native.Nat.{ℕ, ◌+◌, ◌*◌, ◌^◌, ◌≤◌, ◌<◌, min, max}
use native.Mathlib.Omega.{arith}
use lib.ListN.{length}
use Rattle.model.specs.Bits.{Bytes}
use Rattle.ends.specs.Records.{Slot, entry_of, slot_with}
use Rattle.ends.specs.Ends.{most_hits, counted, confirmed}
use Rattle.buffers.specs.BigEndian.{to_be}
use Rattle.buffers.specs.Parts.{splice, chunk}
use Rattle.buffers.proofs.PartLaws.{part_length, part_bytes, splice-part}
use Rattle.buffers.proofs.ByteLaws.{byte_more, byte-none, append-bytes, to_be-bytes, splice-bytes, two-below, four_below}
use Rattle.records.specs.Layout.{slot_sequence, slot_hits, slot_value, slot_mask, slot_action, slot_rule, slot_settled, slot_spare, slot_size}
use Rattle.end_records.specs.Slots.{decode_slot, encode_slot, SlotFits, slot_in, put_slot}
use Rattle.end_records.proofs.SlotLaws.{encode-decode-slot}

-- ---- slots

-- each field is one that its bytes can hold, and each byte is one
pub record ByteSlot (w : ℕ) (x : Slot) : Type 0 where
  pub fits : SlotFits w x
  pub value-bytes : Bytes x.value
  pub mask-bytes : Bytes x.mask
  pub settled-byte : x.settled < 256
  pub spare-byte : x.spare < 256

pub encode-bytes : (w : ℕ) (x : Slot) → ByteSlot w x → Bytes (encode_slot x)
unfolding encode_slot
encode-bytes w x h =
    append-bytes _ _ (to_be-bytes 4 x.sequence)
    (append-bytes _ _ (to_be-bytes 4 x.hits)
    (append-bytes _ _ h.value-bytes
    (append-bytes _ _ h.mask-bytes
    (append-bytes _ _ (to_be-bytes 2 x.action)
    (append-bytes _ _ (to_be-bytes 2 x.rule) (byte_more h.settled-byte (byte_more h.spare-byte byte-none)))))))

decoded-byte : (w : ℕ) (c : List ℕ) → Bytes c → length c ≡ slot_size w → ByteSlot w (decode_slot w c)
unfolding decode_slot
decoded-byte w c h l =
    record {
      fits = record {
        sequence-fits = four_below slot_sequence c h (omega arith);
        hits-fits = four_below slot_hits c h (omega arith);
        value-long = part_length w slot_value c (omega arith);
        mask-long = part_length w (slot_mask w) c (omega arith);
        action-fits = two-below (slot_action w) c h (omega arith);
        rule_fits = two-below (slot_rule w) c h (omega arith);
      };
      value-bytes = part_bytes w slot_value c h;
      mask-bytes = part_bytes w (slot_mask w) c h;
      settled-byte = h.byte (slot_settled w);
      spare-byte = h.byte (slot_spare w);
    }

-- the same entry with other hits and marks
pub with_byte : (w : ℕ) (x : Slot) (hits settled spare : ℕ) → ByteSlot w x → hits < 2 ^ 32 → settled < 256 → spare < 256
    → ByteSlot w (slot_with (entry_of x) hits settled spare)
with_byte w x hits settled spare h low marked spared =
    let f = h.fits in
    record {
      fits = record {
        sequence-fits = f.sequence-fits;
        hits-fits = low;
        value-long = f.value-long;
        mask-long = f.mask-long;
        action-fits = f.action-fits;
        rule_fits = f.rule_fits;
      };
      value-bytes = h.value-bytes;
      mask-bytes = h.mask-bytes;
      settled-byte = marked;
      spare-byte = spared;
    }

-- one hit more; and confirmed by a report
pub counted-byte : (w : ℕ) (x : Slot) → ByteSlot w x → ByteSlot w (counted x)
counted-byte w x h = with_byte w x (min (x.hits + 1) most_hits) x.settled x.spare h (omega arith) h.settled-byte h.spare-byte

pub confirmed-byte : (w : ℕ) (x : Slot) (hits : ℕ) → ByteSlot w x → hits < 2 ^ 32 → ByteSlot w (confirmed x hits)
confirmed-byte w x hits h low =
    with_byte w x (max x.hits hits) 1 x.spare h (omega (arith, h.fits.hits-fits)) (omega arith) h.spare-byte

-- the bytes of the same slot with other hits: four of them are replaced
hits-replaced : (x : Slot) (hits : ℕ) → encode_slot (slot_with (entry_of x) hits x.settled x.spare) ≡ splice slot_hits (to_be 4 hits) (encode_slot x)
unfolding encode_slot splice
hits-replaced x hits = refl

-- ---- a slot of a buffer, and one that is put there

module _ (w : ℕ) (bs : List ℕ) (i : ℕ) (room : slot_size w * i + slot_size w ≤ length bs) (h : Bytes bs) where
  pub slot-byte : ByteSlot w (slot_in w bs i)
  slot-byte =
      decoded-byte w (chunk (slot_size w) bs i)
      (part_bytes (slot_size w) (slot_size w * i) bs h)
      (part_length (slot_size w) (slot_size w * i) bs room)

  -- other hits written over its own put the slot with these hits
  pub put-hits : (hits : ℕ) → let x = slot_in w bs i in
      splice (slot_size w * i + slot_hits) (to_be 4 hits) bs ≡ put_slot w bs i (slot_with (entry_of x) hits x.settled x.spare)
  put-hits hits =
      let x = slot_in w bs i in
      let c = chunk (slot_size w) bs i in
      let same : encode_slot x ≡ c =
      encode-decode-slot w c (part_length (slot_size w) (slot_size w * i) bs room) (part_bytes (slot_size w) (slot_size w * i) bs h)
      in
      sym (ap (λ (r : List ℕ). splice (slot_size w * i) r bs) (hits-replaced x hits ∙ ap (splice slot_hits (to_be 4 hits)) same)
      ∙ splice-part (slot_size w) (slot_size w * i) slot_hits (to_be 4 hits) bs (omega arith) room)

  module _ (x : Slot) (b : ByteSlot w x) where
    pub put-bytes : Bytes (put_slot w bs i x)
    put-bytes = splice-bytes (slot_size w * i) (encode_slot x) bs (encode-bytes w x b) h
