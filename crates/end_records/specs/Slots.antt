-- Slots: what a record of the table or of the keeper means, and its bytes. Assumes nothing.
use Rattle.std.specs.Prelude.{ℕ, ◌*◌, ◌^◌, ◌<◌, ◌≡◌, List, [], ◌∷◌, ◌++◌, length, get_or, set}
use Rattle.ends.specs.Records.{Slot}
use Rattle.buffers.specs.BigEndian.{be, to_be}
use Rattle.buffers.specs.Parts.{part, splice, chunk, records_in}
use Rattle.records.specs.Layout.{slot_sequence, slot_hits, slot_value, slot_mask, slot_action, slot_rule, slot_settled, slot_spare, slot_size}
use Rattle.records.specs.SlotBuffers.{slot_count}

unfoldable pub decode_slot : ℕ → List ℕ → Slot
decode_slot w c =
    record {
      sequence = be (part 4 slot_sequence c);
      hits = be (part 4 slot_hits c);
      value = part w slot_value c;
      mask = part w (slot_mask w) c;
      action = be (part 2 (slot_action w) c);
      rule = be (part 2 (slot_rule w) c);
      settled = get_or c (slot_settled w) 0;
      spare = get_or c (slot_spare w) 0;
    }

unfoldable pub encode_slot : Slot → List ℕ
encode_slot x =
    to_be 4 x.sequence
    ++ (to_be 4 x.hits
    ++ (x.value
    ++ (x.mask
    ++ (to_be 2 x.action
    ++ (to_be 2 x.rule
    ++ (x.settled ∷ x.spare ∷ []))))))

-- each field is one that its bytes can hold
pub record SlotFits (w : ℕ) (x : Slot) : Type 0 where
  pub sequence-fits : x.sequence < 2 ^ 32
  pub hits-fits : x.hits < 2 ^ 32
  pub value-long : length x.value ≡ w
  pub mask-long : length x.mask ≡ w
  pub action-fits : x.action < 2 ^ 16
  pub rule_fits : x.rule < 2 ^ 16

-- the i-th slot of a buffer
abbrev pub slot_in : ℕ → List ℕ → ℕ → Slot
slot_in w bs i = decode_slot w (chunk (slot_size w) bs i)

-- all slots of a buffer
unfoldable pub slots : ℕ → List ℕ → List Slot
slots w bs = records_in (slot_size w) (decode_slot w) (slot_count w bs) bs

-- the buffer with the bytes of its i-th slot replaced
abbrev pub put_slot : ℕ → List ℕ → ℕ → Slot → List ℕ
put_slot w bs i x = splice (slot_size w * i) (encode_slot x) bs

-- what it is to put a slot into a buffer: its bytes are replaced and no other, so it is set in the list of slots
pub record SlotPut (w : ℕ) (before : List ℕ) (i : ℕ) (x : Slot) (after : List ℕ) : Type 0 where
  pub bytes : after ≡ put_slot w before i x
  pub meaning : slots w after ≡ set (slots w before) i x
