-- What separates, as bits of bytes that are read where they lie. Assumes nothing.
use mathlib.Core.Path.{◌≡◌, refl, ap, ap₂, ◌∙◌}
use mathlib.Core.Bool.{beq, not, ◌&&◌}
use mathlib.Core.List.{List}
use Prim.Native.Nat.{ℕ, ◌+◌, ◌-◌, ◌*◌, ◌/◌, ◌%◌, ◌^◌, ◌<◌}
use native.Mathlib.Omega.{arith}
use lib.Bits.{bit_and, bit_xor, and_mask}
use lib.Dec.{eqb}
use lib.ListN.{get_or}
use lib.Seq.{get_or-drop, get_or-take}
use Rattle.model.specs.Below.{all_below}
use Rattle.model.specs.Bits.{digit, bit_of}
use Rattle.model.specs.Policy.{Rule, rule_at}
use Rattle.model.specs.Pattern.{exact_at, same_at}
use Rattle.model.specs.Isolate.{separates}
use Rattle.model.proofs.BitLaws.{digit_lt}
use Rattle.ternary.proofs.ByteLaws.{beq_same, on-bits₄, bit-and, bit-xor, bit_not, bit_in}
use Rattle.buffers.specs.Parts.{part}
use Rattle.records.specs.Layout.{rule_value, rule_mask, rule_size}
use Rattle.records.specs.Rules.{rule_count, rules}
use Rattle.records.proofs.RuleLaws.{value-in-place, mask-in-place}
use Rattle.isolate.specs.Columns.{bit_set, Separating}

-- ---- the code's expression, at each bit

abbrev separating : ℕ → ℕ → ℕ → ℕ → ℕ → ℕ
separating top own mask value key = bit_and (bit_and (top - own) mask) (bit_xor value key)

on-each : (o m v k : ℕ) → o < 2 → m < 2 → v < 2 → k < 2 → eqb (separating 1 o m v k) 1 ≡ (not (eqb o 1) && (eqb m 1 && not (eqb v k)))
unfolding all_below
on-each o m v k p q r s =
    beq_same _ _
    (on-bits₄ (λ o m v k. beq (eqb (separating 1 o m v k) 1) (not (eqb o 1) && (eqb m 1 && not (eqb v k)))) refl o m v k p q r s)

bit-separating : (own mask value key q : ℕ) → own < 256 → q < 8
    → bit_of (separating 255 own mask value key) q ≡ separating 1 (bit_of own q) (bit_of mask q) (bit_of value q) (bit_of key q)
bit-separating own mask value key q h l =
    bit-and (bit_and (255 - own) mask) (bit_xor value key) q
    ∙ ap₂ bit_and (bit-and (255 - own) mask q ∙ ap (λ (b : ℕ). bit_and b (bit_of mask q)) (bit_not own q h l)) (bit-xor value key q)

-- ---- the bytes of two rules and of the key

-- a byte of a row of w bytes that begins at `at`
byte-there : (w at b : ℕ) (s : List ℕ) → b < w → get_or (part w at s) b 0 ≡ get_or s (at + b) 0
byte-there w at b s h = rw (get_or-take, get_or-drop)

module _ (w : ℕ) (bs : List ℕ) (b : ℕ) (lb : b < w) where
  mask-byte : (i : ℕ) → i < rule_count w bs → get_or (rule_at (rules w bs) i).mask b 0 ≡ get_or bs (rule_size w * i + rule_mask w + b) 0
  mask-byte i l = rw (mask-in-place w bs i l) (byte-there w (rule_size w * i + rule_mask w) b bs lb)

  value-byte : (i : ℕ) → i < rule_count w bs → get_or (rule_at (rules w bs) i).value b 0 ≡ get_or bs (rule_size w * i + rule_value + b) 0
  value-byte i l = rw (value-in-place w bs i l) (byte-there w (rule_size w * i + rule_value) b bs lb)

  pub separating-bits : (i d : ℕ) → i < rule_count w bs → d < rule_count w bs → (key : ℕ) → get_or bs (rule_size w * i + rule_mask w + b) 0 < 256
      → Separating (rules w bs) key i b d
      (separating 255 (get_or bs (rule_size w * i + rule_mask w + b) 0) (get_or bs (rule_size w * d + rule_mask w + b) 0)
      (get_or bs (rule_size w * d + rule_value + b) 0) key)
  unfolding bit_set
  separating-bits i d li ld key h = record {
    at = λ q l.
        let o = get_or bs (rule_size w * i + rule_mask w + b) 0 in
        let m = get_or bs (rule_size w * d + rule_mask w + b) 0 in
        let v = get_or bs (rule_size w * d + rule_value + b) 0 in
        rw (mask-byte i li, mask-byte d ld, value-byte d ld)
        (ap (λ (x : ℕ). eqb x 1) (bit-separating o m v key q h l)
        ∙ on-each _ _ _ _ (digit_lt o (7 - q)) (digit_lt m (7 - q)) (digit_lt v (7 - q)) (digit_lt key (7 - q)));
  }

-- ---- the byte has the bits of the positions that separate d
module _ (pol : List Rule) (key : List ℕ) (i b d x : ℕ) (is : Separating pol (get_or key b 0) i b d x) where
  pub separates-here : (q : ℕ) → q < 8 → bit_set q x ≡ separates pol key i (b * 8 + q) d
  unfolding separates exact_at same_at bit_set
  separates-here q l =
      rw (
        bit_in (rule_at pol i).mask b q l,
        bit_in (rule_at pol d).mask b q l,
        bit_in (rule_at pol d).value b q l,
        bit_in key b q l,
      )
      (is.at q l)

  pub separates-at : (p : ℕ) → b ≡ p / 8 → bit_set (p % 8) x ≡ separates pol key i p d
  separates-at p e =
      let here : b * 8 + p % 8 ≡ p = omega arith in
      separates-here (p % 8) (omega arith) ∙ ap (λ (m : ℕ). separates pol key i m d) here

-- a shift and a mask of 1 take the bit
pub bit-taken : (q x : ℕ) → eqb (bit_and (x / 2 ^ (7 - q)) 1) 1 ≡ bit_set q x
unfolding bit_set digit
bit-taken q x = ap (λ (b : ℕ). eqb b 1) (and_mask (x / 2 ^ (7 - q)) 1)
