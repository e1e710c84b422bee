-- Bytes and their bits, and rows of bytes: what holds of each bit, or of each byte, is a test that antt computes at all of them.
-- Assumes nothing.
use mathlib.Core.Path.{◌≡◌, refl, sym, ap, ap₂, ◌∙◌}
use mathlib.Core.Bool.{Bool, true, false, beq}
use mathlib.Core.List.{List}
use Prim.Native.Nat.{ℕ, ◌+◌, ◌-◌, ◌*◌, ◌/◌, ◌%◌, ◌^◌, ◌≤◌, ◌<◌}
use native.Mathlib.Omega.{arith}
use borrow.Author.Tests.{eqb-true}
use lib.Arith.{digits_div, digits_mod}
use lib.Bits.{bit_and, bit_or, bit_xor, and_shr, or_shr, xor_shr, and_mod, or_mod, xor_mod}
use lib.Dec.{eqb}
use lib.ListN.{get_or}
use mir.Syntax.{w8}
use mir.Val.{Fits}
use Rattle.model.specs.Below.{all_below, sum_below}
use Rattle.model.specs.Bits.{digit, bit_of, bit_at, Bytes}
use Rattle.model.proofs.BelowLaws.{sum_same, all-at, all_of, all-fails, all_same, all_blocks}

pub beq_same : (a b : Bool) → beq a b ≡ true → a ≡ b
beq_same true true e = refl
beq_same true false e = sym e
beq_same false true e = e
beq_same false false e = refl

-- ---- tests that antt computes at all their cases

-- of two numbers, below m and below n
pub on-pairs : (f : ℕ → ℕ → Bool) (m n : ℕ) → all_below (λ a. all_below (f a) n) m ≡ true → (a b : ℕ) → a < m → b < n → f a b ≡ true
on-pairs f m n e a b p q = all-at (f a) n (all-at (λ a. all_below (f a) n) m e a p) b q

-- of two, three or four bits
abbrev all₂ : (ℕ → ℕ → Bool) → Bool
all₂ f = all_below (λ a. all_below (f a) 2) 2

abbrev all₃ : (ℕ → ℕ → ℕ → Bool) → Bool
all₃ f = all_below (λ a. all₂ (f a)) 2

pub on-bits₂ : (f : ℕ → ℕ → Bool) → all₂ f ≡ true → (a b : ℕ) → a < 2 → b < 2 → f a b ≡ true
on-bits₂ f e a b p q = on-pairs f 2 2 e a b p q

pub on-bits₃ : (f : ℕ → ℕ → ℕ → Bool) → all₃ f ≡ true → (a b c : ℕ) → a < 2 → b < 2 → c < 2 → f a b c ≡ true
on-bits₃ f e a b c p q r = on-bits₂ (f a) (all-at (λ a. all₂ (f a)) 2 e a p) b c q r

pub on-bits₄ : (f : ℕ → ℕ → ℕ → ℕ → Bool) → all_below (λ a. all₃ (f a)) 2 ≡ true
    → (a b c d : ℕ) → a < 2 → b < 2 → c < 2 → d < 2 → f a b c d ≡ true
on-bits₄ f e a b c d p q r s = on-bits₃ (f a) (all-at (λ a. all₃ (f a)) 2 e a p) b c d q r s

-- the elements of an array of u8 are bytes
pub bytes_of : (row : List ℕ) → ((i : ℕ) → Fits w8 (get_or row i 0)) → Bytes row
bytes_of row h = record { byte = λ i. (h i).fits }

-- ---- an operation on bytes works on each bit apart

pub bit-and : (x y q : ℕ) → bit_of (bit_and x y) q ≡ bit_and (bit_of x q) (bit_of y q)
unfolding digit
bit-and x y q = ap (λ (z : ℕ). z % 2) (and_shr x y (7 - q)) ∙ and_mod (x / 2 ^ (7 - q)) (y / 2 ^ (7 - q)) 1

pub bit-or : (x y q : ℕ) → bit_of (bit_or x y) q ≡ bit_or (bit_of x q) (bit_of y q)
unfolding digit
bit-or x y q = ap (λ (z : ℕ). z % 2) (or_shr x y (7 - q)) ∙ or_mod (x / 2 ^ (7 - q)) (y / 2 ^ (7 - q)) 1

pub bit-xor : (x y q : ℕ) → bit_of (bit_xor x y) q ≡ bit_xor (bit_of x q) (bit_of y q)
unfolding digit
bit-xor x y q = ap (λ (z : ℕ). z % 2) (xor_shr x y (7 - q)) ∙ xor_mod (x / 2 ^ (7 - q)) (y / 2 ^ (7 - q)) 1

-- `!x` of a byte is 255 - x
pub bit_not : (x q : ℕ) → x < 256 → q < 8 → bit_of (255 - x) q ≡ 1 - bit_of x q
unfolding digit all_below
bit_not x q h l = eqb-true _ _ (on-pairs (λ x q. eqb (bit_of (255 - x) q) (1 - bit_of x q)) 256 8 refl x q h l)

-- ---- a byte and its eight bits

-- a byte is 0 where none of its bits is set
clear-byte : (x : ℕ) → x < 256 → all_below (λ q. eqb (bit_of x q) 0) 8 ≡ eqb x 0
unfolding digit all_below
clear-byte x h = beq_same _ _ (all-at (λ x. beq (all_below (λ q. eqb (bit_of x q) 0) 8) (eqb x 0)) 256 refl x h)

-- bytes with the same bits are the same
byte-bits : (x : ℕ) → x < 256 → x ≡ sum_below (λ q. bit_of x q * 2 ^ (7 - q)) 8
unfolding digit all_below sum_below
byte-bits x h = eqb-true _ _ (all-at (λ x. eqb x (sum_below (λ q. bit_of x q * 2 ^ (7 - q)) 8)) 256 refl x h)

pub same_bytes : (x y : ℕ) → x < 256 → y < 256 → ((q : ℕ) → q < 8 → bit_of x q ≡ bit_of y q) → x ≡ y
same_bytes x y hx hy h =
    byte-bits x hx ∙ sum_same _ _ 8 (λ q l. ap (λ (b : ℕ). b * 2 ^ (7 - q)) (h q l)) ∙ sym (byte-bits y hy)

-- ---- a row of w bytes and its w * 8 positions

-- position i * 8 + q is in byte i, at q
pub bit_in : (row : List ℕ) (i q : ℕ) → q < 8 → bit_at row (i * 8 + q) ≡ bit_of (get_or row i 0) q
unfolding bit_at
bit_in row i q l = ap₂ (λ (j r : ℕ). bit_of (get_or row j 0) r) (digits_div i l) (digits_mod i l)

-- a test of positions passes at all eight of byte i
abbrev pub passes : (ℕ → Bool) → ℕ → Bool
passes t i = all_below (λ q. t (i * 8 + q)) 8

module _ (t : ℕ → Bool) where
  -- where the test is whether a bit of the byte x is clear, it passes at byte i where x is 0
  pub by_byte : (i x : ℕ) → x < 256 → ((q : ℕ) → q < 8 → t (i * 8 + q) ≡ eqb (bit_of x q) 0) → passes t i ≡ eqb x 0
  by_byte i x h at = all_same (λ q. t (i * 8 + q)) (λ q. eqb (bit_of x q) 0) 8 at ∙ clear-byte x h

  -- a loop over the bytes has passed them all, or stops at one that fails
  pub row-yes : (w i : ℕ) → ((k : ℕ) → k < i → passes t k ≡ true) → w ≤ i → true ≡ all_below t (w * 8)
  row-yes w i is h = sym (all_blocks t (passes t) w (λ k l. refl) ∙ all_of (passes t) w (λ k l. is k (omega arith)))

  pub row-no : (w i : ℕ) → i < w → passes t i ≡ false → false ≡ all_below t (w * 8)
  row-no w i l e = sym (all_blocks t (passes t) w (λ k l. refl) ∙ all-fails (passes t) w i l e)
