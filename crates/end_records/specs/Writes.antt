-- Writes: what the keeper sends. Assumes nothing.
use Rattle.std.specs.Prelude.{ℕ, ◌^◌, ◌<◌, ◌≡◌, List, [], ◌∷◌, ◌++◌, length}
use Rattle.ends.specs.Records.{Write}
use Rattle.buffers.specs.BigEndian.{be, to_be}
use Rattle.buffers.specs.Parts.{part}
use Rattle.records.specs.Layout.{write_slot, write_sequence, write_value, write_mask, write_action, write_rule, is_write}

-- what a write's bytes mean, whatever its kind and its zero bytes are
unfoldable pub decode_write : ℕ → List ℕ → Write
decode_write w c =
    record {
      slot = be (part 2 write_slot c);
      sequence = be (part 4 write_sequence c);
      value = part w write_value c;
      mask = part w (write_mask w) c;
      action = be (part 2 (write_action w) c);
      rule = be (part 2 (write_rule w) c);
    }

unfoldable pub encode_write : Write → List ℕ
encode_write x =
    (is_write ∷ 0 ∷ [])
    ++ (to_be 2 x.slot
    ++ (to_be 4 x.sequence
    ++ (x.value
    ++ (x.mask
    ++ (to_be 2 x.action
    ++ (to_be 2 x.rule
    ++ (0 ∷ 0 ∷ [])))))))

-- each field is one that its bytes can hold
pub record WriteFits (w : ℕ) (x : Write) : Type 0 where
  pub slot-fits : x.slot < 2 ^ 16
  pub sequence-fits : x.sequence < 2 ^ 32
  pub value-long : length x.value ≡ w
  pub mask-long : length x.mask ≡ w
  pub action-fits : x.action < 2 ^ 16
  pub rule_fits : x.rule < 2 ^ 16
