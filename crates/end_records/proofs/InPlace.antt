-- Fields of a slot, where they lie in the buffer. For every width. Assumes nothing.
use mathlib.Core.Path.{◌≡◌, ◌∙◌}
use mathlib.Core.List.{List}
use Prim.Native.Nat.{ℕ, ◌+◌, ◌*◌, ◌<◌}
use native.Mathlib.Omega.{arith}
use lib.ListN.{get_or, drop}
use lib.Seq.{get_or-take, get_or-drop}
use Rattle.ends.specs.Records.{slot_at}
use Rattle.buffers.specs.BigEndian.{be}
use Rattle.buffers.specs.Parts.{part}
use Rattle.buffers.proofs.PartLaws.{part-part}
use Rattle.records.specs.Layout.{slot_sequence, slot_hits, slot_value, slot_mask, slot_settled, slot_size}
use Rattle.end_records.specs.Slots.{decode_slot, slots}
use Rattle.records.specs.SlotBuffers.{slot_count}
use Rattle.end_records.proofs.SlotLaws.{slot-at}

module _ (w : ℕ) (bs : List ℕ) (i : ℕ) (l : i < slot_count w bs) where
  pub sequence-in-place : (slot_at (slots w bs) i).sequence ≡ be (part 4 (slot_size w * i + slot_sequence) bs)
  unfolding decode_slot
  sequence-in-place = rw (slot-at w bs i l, part-part 4 slot_sequence (slot_size w) (slot_size w * i) bs (omega arith))

  pub hits-in-place : (slot_at (slots w bs) i).hits ≡ be (part 4 (slot_size w * i + slot_hits) bs)
  unfolding decode_slot
  hits-in-place = rw (slot-at w bs i l, part-part 4 slot_hits (slot_size w) (slot_size w * i) bs (omega arith))

  pub value-in-place : (slot_at (slots w bs) i).value ≡ part w (slot_size w * i + slot_value) bs
  unfolding decode_slot
  value-in-place = rw (slot-at w bs i l) (part-part w slot_value (slot_size w) (slot_size w * i) bs (omega arith))

  pub mask-in-place : (slot_at (slots w bs) i).mask ≡ part w (slot_size w * i + slot_mask w) bs
  unfolding decode_slot
  mask-in-place = rw (slot-at w bs i l) (part-part w (slot_mask w) (slot_size w) (slot_size w * i) bs (omega arith))

  pub settled-in-place : (slot_at (slots w bs) i).settled ≡ get_or bs (slot_size w * i + slot_settled w) 0
  unfolding decode_slot
  settled-in-place =
      rw (slot-at w bs i l)
      (get_or-take (slot_size w) (drop (slot_size w * i) bs) (slot_settled w) 0 (omega arith)
      ∙ get_or-drop (slot_size w * i) bs (slot_settled w) 0)
