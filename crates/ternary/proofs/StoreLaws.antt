-- A store that changes one bit of a row: `row[p / 8]` is written, and of that byte one bit is new. Assumes nothing.
use mathlib.Core.Path.{◌≡◌, refl, sym, ap, ap₂, ◌∙◌}
use mathlib.Core.Bool.{Bool, true, false, cond}
use mathlib.Core.List.{List}
use Prim.Native.Nat.{ℕ, ◌-◌, ◌/◌, ◌%◌, ◌^◌, ◌<◌}
use native.Mathlib.Nat.{lt_of_le_of_lt}
use native.Mathlib.Omega.{arith}
use borrow.Author.Tests.{ltb-true, eqb-true, eqb-false, eq-eqb, ne_eqb}
use lib.Bits.{bit_and, bit_or, bit_xor, and_le_l, or_lt, xor_lt}
use lib.Dec.{ltb, eqb}
use lib.ListN.{get_or, set}
use Rattle.model.specs.Below.{all_below}
use Rattle.model.specs.Bits.{digit, bit_of, bit_at, put_digit, put_bit, Bytes}
use Rattle.model.proofs.Cases.{by_cases}
use Rattle.model.proofs.BelowLaws.{all-at}
use Rattle.model.proofs.BitLaws.{digit_lt, digit-put, put-lt}
use Rattle.ternary.proofs.ByteLaws.{on-pairs, on-bits₂, bit-and, bit-or, bit-xor, same_bytes}

-- the byte with one bit set, at r from its top
one_bit : (r q : ℕ) → r < 8 → q < 8 → bit_of (128 / 2 ^ r) q ≡ cond (eqb q r) 1 0
unfolding digit all_below
one_bit r q h l = eqb-true _ _ (on-pairs (λ r q. eqb (bit_of (128 / 2 ^ r) q) (cond (eqb q r) 1 0)) 8 8 refl r q h l)

merge-bits : (t : Bool) (v k : ℕ) → v < 2 → k < 2 → bit_xor v (bit_and (bit_xor v k) (cond t 1 0)) ≡ cond t k v
unfolding all_below
merge-bits true v k p q = eqb-true _ _ (on-bits₂ (λ v k. eqb (bit_xor v (bit_and (bit_xor v k) 1)) k) refl v k p q)
merge-bits false v k p q = eqb-true _ _ (on-bits₂ (λ v k. eqb (bit_xor v (bit_and (bit_xor v k) 0)) v) refl v k p q)

raise-bits : (t : Bool) (m : ℕ) → m < 2 → bit_or m (cond t 1 0) ≡ cond t 1 m
unfolding all_below
raise-bits true m p = eqb-true _ _ (all-at (λ m. eqb (bit_or m 1) 1) 2 refl m p)
raise-bits false m p = eqb-true _ _ (all-at (λ m. eqb (bit_or m 0) m) 2 refl m p)

-- x is the byte y with the bit b at r
abbrev Stored : ℕ → ℕ → ℕ → ℕ → Type 0
Stored x y r b = (q : ℕ) → q < 8 → bit_of x q ≡ cond (eqb q r) b (bit_of y q)

at-r : (g : ℕ → ℕ) (z q r : ℕ) → cond (eqb q r) (g q) z ≡ cond (eqb q r) (g r) z
at-r g z q r = go (eqb q r) refl
  where
    go : (t : Bool) → eqb q r ≡ t → cond t (g q) z ≡ cond t (g r) z
    go true e = ap g (eqb-true q r e)
    go false e = refl

-- `v ^ ((v ^ k) & (128 >> r))` takes the bit at r from k, and `m | (128 >> r)` sets it
merged : (v k r : ℕ) → r < 8 → Stored (bit_xor v (bit_and (bit_xor v k) (128 / 2 ^ r))) v r (bit_of k r)
merged v k r h q l =
    bit-xor v (bit_and (bit_xor v k) (128 / 2 ^ r)) q
    ∙ ap (bit_xor (bit_of v q)) (bit-and (bit_xor v k) (128 / 2 ^ r) q ∙ ap₂ bit_and (bit-xor v k q) (one_bit r q h l))
    ∙ merge-bits (eqb q r) (bit_of v q) (bit_of k q) (digit_lt v (7 - q)) (digit_lt k (7 - q))
    ∙ at-r (bit_of k) (bit_of v q) q r

raised : (m r : ℕ) → r < 8 → Stored (bit_or m (128 / 2 ^ r)) m r 1
raised m r h q l =
    bit-or m (128 / 2 ^ r) q ∙ ap (bit_or (bit_of m q)) (one_bit r q h l) ∙ raise-bits (eqb q r) (bit_of m q) (digit_lt m (7 - q))

-- such a byte is the byte with its digit put
stored-put : (x y r b : ℕ) → x < 256 → y < 256 → r < 8 → b < 2 → Stored x y r b → put_digit y (7 - r) b ≡ x
stored-put x y r b hx hy l c is =
    same_bytes (put_digit y (7 - r) b) x (put-lt 8 y (7 - r) b hy (omega arith) c) hx (λ q k.
    digit-put (7 - r) (7 - q) y b c
    ∙ ap (λ (t : Bool). cond t b (bit_of y q)) (flipped q r k l)
    ∙ sym (is q k))
  where
    flipped : (q r : ℕ) → q < 8 → r < 8 → eqb (7 - q) (7 - r) ≡ eqb q r
    flipped q r k l =
        by_cases (eqb q r)
        (λ e. eq-eqb (7 - q) (7 - r) (ap (λ (m : ℕ). 7 - m) (eqb-true q r e)) ∙ sym e)
        (λ e. ne_eqb (7 - q) (7 - r) (λ i. eqb-false q r e (omega arith)) ∙ sym e)

one-small : (r : ℕ) → r < 8 → 128 / 2 ^ r < 256
unfolding all_below
one-small r l = ltb-true _ _ (all-at (λ r. ltb (128 / 2 ^ r) 256) 8 refl r l)

-- so code that stores it puts the bit into the row
module _ (row : List ℕ) (p : ℕ) (hr : Bytes row) where
  pub put-merged : (key : List ℕ) → Bytes key
      → set row (p / 8) (bit_xor (get_or row (p / 8) 0) (bit_and (bit_xor (get_or row (p / 8) 0) (get_or key (p / 8) 0)) (128 / 2 ^ (p % 8))))
      ≡ put_bit row p (bit_at key p)
  unfolding put_bit bit_at
  put-merged key hk =
      let v = get_or row (p / 8) 0 in
      let k = get_or key (p / 8) 0 in
      let small : bit_xor v k < 256 = xor_lt 8 v k (hr.byte (p / 8)) (hk.byte (p / 8)) in
      ap (set row (p / 8)) (sym (stored-put _ v (p % 8) (bit_of k (p % 8))
      (xor_lt 8 v _ (hr.byte (p / 8)) (lt_of_le_of_lt (and_le_l (bit_xor v k) (128 / 2 ^ (p % 8))) small))
      (hr.byte (p / 8)) (omega arith) (digit_lt k (7 - p % 8)) (merged v k (p % 8) (omega arith))))

  pub put-raised : set row (p / 8) (bit_or (get_or row (p / 8) 0) (128 / 2 ^ (p % 8))) ≡ put_bit row p 1
  unfolding put_bit
  put-raised =
      let m = get_or row (p / 8) 0 in
      ap (set row (p / 8)) (sym (stored-put _ m (p % 8) 1
      (or_lt 8 m _ (hr.byte (p / 8)) (one-small (p % 8) (omega arith)))
      (hr.byte (p / 8)) (omega arith) (omega arith) (raised m (p % 8) (omega arith))))
