-- Laws of rules, for every width. Assumes nothing.
use Prim.Native.Nat.{ℕ, ◌+◌, ◌*◌, ◌<◌}
use mathlib.Core.Path.{◌≡◌, refl, ap, ◌∙◌}
use mathlib.Core.List.{List, [], ◌∷◌, ◌++◌}
use native.Mathlib.Omega.{arith}
use lib.ListN.{length, take, drop, get_or}
use Rattle.model.specs.Bits.{Bytes}
use Rattle.model.specs.Pattern.{matches}
use Rattle.model.specs.Policy.{Rule, rule_at, rule_matches}
use Rattle.buffers.specs.BigEndian.{be, to_be}
use Rattle.buffers.specs.Parts.{part}
use Rattle.buffers.proofs.PartLaws.{part-part}
use Rattle.buffers.proofs.BigEndianLaws.{be-to_be}
use Rattle.buffers.proofs.FieldLaws.{part-past, value_there, mask-there, after-rows, part_then, number-then, pair-last}
use Rattle.buffers.proofs.RecordLaws.{records-count, records-at}
use Rattle.records.specs.Layout.{rule_value, rule_mask, rule_priority, rule_action, rule_spare, rule_size}
use Rattle.records.specs.Rules.{decode_rule, encode_rule, RuleFits, rule_count, rule_in, rules}

-- rules with the same fields are the same
same-rule : {a b : Rule} → a.value ≡ b.value → a.mask ≡ b.mask → a.priority ≡ b.priority → a.action ≡ b.action → a ≡ b
same-rule p q r s i = record { value = p i; mask = q i; priority = r i; action = s i }

-- what was encoded is decoded
module _ (w : ℕ) (r : Rule) (f : RuleFits w r) where
  abbrev numbers : List ℕ
  numbers = to_be 2 r.priority ++ (to_be 2 r.action ++ (0 ∷ 0 ∷ []))

  abbrev bytes : List ℕ
  bytes = r.value ++ (r.mask ++ numbers)

  after : drop (rule_priority w) bytes ≡ numbers
  after = after-rows w rule_value bytes r.value r.mask numbers refl f.value-long f.mask-long

  pub decode-encode-rule : decode_rule w (encode_rule r) ≡ r
  unfolding decode_rule encode_rule
  decode-encode-rule =
      same-rule
      (value_there w rule_value bytes r.value r.mask numbers refl f.value-long f.mask-long)
      (mask-there w rule_value bytes r.value r.mask numbers refl f.value-long f.mask-long)
      (ap (λ (s : List ℕ). be (take 2 s)) after ∙ be-to_be 2 r.priority f.priority-fits)
      (ap be (part-past bytes (rule_priority w) after 2 2) ∙ be-to_be 2 r.action f.action-fits)

-- what was decoded is encoded, where the zero bytes are zero
pub encode-decode-rule : (w : ℕ) (c : List ℕ) → length c ≡ rule_size w → Bytes c → get_or c (rule_spare w) 0 ≡ 0 → get_or c (rule_spare w + 1) 0 ≡ 0
    → encode_rule (decode_rule w c) ≡ c
unfolding decode_rule encode_rule
encode-decode-rule w c l h y z =
    part_then c w rule_value
    (part_then c w (rule_mask w)
    (number-then c 2 (rule_priority w) h (omega arith)
    (number-then c 2 (rule_action w) h (omega arith)
    (pair-last c (rule_spare w) y z (omega arith)))))

pub rule-count : (w : ℕ) (bs : List ℕ) → length (rules w bs) ≡ rule_count w bs
unfolding rules
rule-count w bs = records-count (rule_size w) (decode_rule w) (rule_count w bs) bs

pub rule-at : (w : ℕ) (bs : List ℕ) (i : ℕ) → i < rule_count w bs → rule_at (rules w bs) i ≡ rule_in w bs i
unfolding rules rule_at
rule-at w bs i l = records-at (rule_size w) (decode_rule w) _ (rule_count w bs) bs i l

-- its fields, where they lie in the policy
module _ (w : ℕ) (bs : List ℕ) (i : ℕ) (l : i < rule_count w bs) where
  pub value-in-place : (rule_at (rules w bs) i).value ≡ part w (rule_size w * i + rule_value) bs
  unfolding decode_rule
  value-in-place = rw (rule-at w bs i l) (part-part w rule_value (rule_size w) (rule_size w * i) bs (omega arith))

  pub mask-in-place : (rule_at (rules w bs) i).mask ≡ part w (rule_size w * i + rule_mask w) bs
  unfolding decode_rule
  mask-in-place = rw (rule-at w bs i l) (part-part w (rule_mask w) (rule_size w) (rule_size w * i) bs (omega arith))

  pub priority-in-place : (rule_at (rules w bs) i).priority ≡ be (part 2 (rule_size w * i + rule_priority w) bs)
  unfolding decode_rule
  priority-in-place = rw (rule-at w bs i l, part-part 2 (rule_priority w) (rule_size w) (rule_size w * i) bs (omega arith))

  pub action-in-place : (rule_at (rules w bs) i).action ≡ be (part 2 (rule_size w * i + rule_action w) bs)
  unfolding decode_rule
  action-in-place = rw (rule-at w bs i l, part-part 2 (rule_action w) (rule_size w) (rule_size w * i) bs (omega arith))

  -- so its rows are matched there
  pub rule-in-place : (key : List ℕ)
      → matches (w * 8) (part w (rule_size w * i + rule_value) bs) (part w (rule_size w * i + rule_mask w) bs) key
      ≡ rule_matches (w * 8) (rules w bs) key i
  unfolding rule_matches
  rule-in-place key = rw (value-in-place, mask-in-place)
