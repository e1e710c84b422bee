-- Laws of writes, for every width. Assumes nothing.
use Prim.Native.Nat.{ℕ, ◌+◌}
use mathlib.Core.Path.{◌≡◌, refl, ap, ◌∙◌}
use mathlib.Core.List.{List, [], ◌∷◌, ◌++◌}
use native.Mathlib.Omega.{arith}
use lib.ListN.{length, take, drop, get_or, length-append}
use Rattle.model.specs.Bits.{Bytes}
use Rattle.ends.specs.Records.{Write}
use Rattle.buffers.specs.BigEndian.{be, to_be}
use Rattle.buffers.proofs.BigEndianLaws.{be-to_be}
use Rattle.buffers.proofs.FieldLaws.{drop_past, part-past, byte_past, value_there, mask-there, after-rows}
use Rattle.buffers.proofs.FieldLaws.{part_then, number-then, pair_then, pair-last}
use Rattle.records.specs.Layout.{write_kind, write_zero, write_slot, write_sequence, write_value, write_mask, write_action, write_rule}
use Rattle.records.specs.Layout.{write_spare, write_size, is_write}
use Rattle.end_records.specs.Writes.{decode_write, encode_write, WriteFits}

-- writes with the same fields are the same
same_write : {a b : Write} → a.slot ≡ b.slot → a.sequence ≡ b.sequence → a.value ≡ b.value → a.mask ≡ b.mask
    → a.action ≡ b.action → a.rule ≡ b.rule → a ≡ b
same_write p q r s t u i = record { slot = p i; sequence = q i; value = r i; mask = s i; action = t i; rule = u i }

-- what was encoded is decoded
module _ (w : ℕ) (x : Write) (f : WriteFits w x) where
  abbrev numbers : List ℕ
  numbers = to_be 2 x.action ++ (to_be 2 x.rule ++ (0 ∷ 0 ∷ []))

  abbrev bytes : List ℕ
  bytes = (is_write ∷ 0 ∷ []) ++ (to_be 2 x.slot ++ (to_be 4 x.sequence ++ (x.value ++ (x.mask ++ numbers))))

  after : drop (write_action w) bytes ≡ numbers
  after = after-rows w write_value bytes x.value x.mask numbers refl f.value-long f.mask-long

  pub decode-encode-write : decode_write w (encode_write x) ≡ x
  unfolding decode_write encode_write
  decode-encode-write =
      same_write
      (be-to_be 2 x.slot f.slot-fits)
      (be-to_be 4 x.sequence f.sequence-fits)
      (value_there w write_value bytes x.value x.mask numbers refl f.value-long f.mask-long)
      (mask-there w write_value bytes x.value x.mask numbers refl f.value-long f.mask-long)
      (ap (λ (s : List ℕ). be (take 2 s)) after ∙ be-to_be 2 x.action f.action-fits)
      (ap be (part-past bytes (write_action w) after 2 2) ∙ be-to_be 2 x.rule f.rule_fits)

  after-action : drop (write_rule w) bytes ≡ drop 2 numbers
  after-action = drop_past bytes (write_action w) after 2

  after-rule : drop (write_spare w) bytes ≡ 0 ∷ 0 ∷ []
  after-rule = drop_past bytes (write_rule w) after-action 2

  -- its last two bytes are zero
  pub spares-encode-write : (get_or (encode_write x) (write_spare w) 0 ≡ 0) × (get_or (encode_write x) (write_spare w + 1) 0 ≡ 0)
  unfolding encode_write
  spares-encode-write = (byte_past bytes (write_rule w) after-action 2, byte_past bytes (write_spare w) after-rule 1)

pub length-encode-write : (w : ℕ) (x : Write) → WriteFits w x → length (encode_write x) ≡ write_size w
unfolding encode_write
length-encode-write w x f = simp (length-append, f.value-long, f.mask-long) (omega arith)

-- what was decoded is encoded, where the kind and the zero bytes are as they must be
pub encode-decode-write : (w : ℕ) (c : List ℕ) → length c ≡ write_size w → Bytes c
    → get_or c write_kind 0 ≡ is_write → get_or c write_zero 0 ≡ 0 → get_or c (write_spare w) 0 ≡ 0 → get_or c (write_spare w + 1) 0 ≡ 0
    → encode_write (decode_write w c) ≡ c
unfolding decode_write encode_write
encode-decode-write w c l h k z y x =
    pair_then c write_kind k z (omega arith)
    (number-then c 2 write_slot h (omega arith)
    (number-then c 4 write_sequence h (omega arith)
    (part_then c w write_value
    (part_then c w (write_mask w)
    (number-then c 2 (write_action w) h (omega arith)
    (number-then c 2 (write_rule w) h (omega arith)
    (pair-last c (write_spare w) y x (omega arith))))))))
