-- Patterns byte by byte: what code computes from a byte of each row, and what that says of the byte's eight positions.
-- Assumes nothing.
use mathlib.Core.Path.{◌≡◌, refl, sym, ap, ◌∙◌}
use mathlib.Core.Bool.{Bool, true, false, beq, not, ◌&&◌, ◌||◌}
use mathlib.Core.List.{List}
use Prim.Native.Nat.{ℕ, ◌+◌, ◌-◌, ◌*◌, ◌≤◌, ◌<◌}
use native.Mathlib.Nat.{le_refl, lt_of_le_of_lt}
use native.Mathlib.Omega.{arith}
use borrow.Author.Tests.{eq-eqb, ne_eqb}
use lib.Bits.{bit_and, bit_xor, and_le_l, xor_lt}
use lib.Dec.{eqb}
use lib.ListN.{length, get_or}
use Rattle.std.specs.Bool.{MatchBool}
use Rattle.std.specs.List.{zip, AllWithin, HoldsAt}
use Rattle.std.proofs.lemmas.Slice.Zip.{length-zip, get_or-zip}
use Rattle.model.specs.Below.{all_below}
use Rattle.model.specs.Bits.{bit_of, Bytes}
use Rattle.model.specs.Pattern.{exact_at, same_at, matches, parts, overlap}
use Rattle.model.proofs.BelowLaws.{Passed}
use Rattle.model.proofs.BitLaws.{digit_lt}
use Rattle.ternary.proofs.ByteLaws.{beq_same, on-bits₃, on-bits₄, bit-and, bit-xor, bit_in, passes, by_byte, row-yes, row-no}

-- a test of a list's elements in order, told by their places
module _ {A : Type 0} (test : A → ℕ) (f : ℕ → ℕ) (xs : List A) (d : A) (w : ℕ) (long : length xs ≡ w)
    (same : (i : ℕ) → i < w → test (get_or xs i d) ≡ f i) where
  none-fails : AllWithin (λ x. test x ≡ 0) xs 0 (length xs) → Passed (λ k. f k ≡ 0) w
  none-fails is = record { at = λ k l. sym (same k l) ∙ is k d (omega arith) (omega (arith, long)) }

  fails-here : (k : ℕ) → k < length xs → HoldsAt (λ x. test x ≡ 0 → ⊥) xs k → f k ≡ 0 → ⊥
  fails-here k l is e = is d (same k (omega (arith, long)) ∙ e)

pub bit-of-lt : (x q : ℕ) → bit_of x q < 2
bit-of-lt x q = digit_lt x (7 - q)

-- ---- a pattern and a key

-- the bits at which the pattern's byte refuses the key's
abbrev refuses : ℕ → ℕ → ℕ → ℕ
refuses v m k = bit_and (bit_xor k v) m

agree-bits : (v m k : ℕ) → v < 2 → m < 2 → k < 2 → (not (eqb m 1) || eqb v k) ≡ eqb (refuses v m k) 0
unfolding all_below
agree-bits v m k p q r = beq_same _ _ (on-bits₃ (λ v m k. beq (not (eqb m 1) || eqb v k) (eqb (refuses v m k) 0)) refl v m k p q r)

bit-refuses : (v m k q : ℕ) → bit_of (refuses v m k) q ≡ refuses (bit_of v q) (bit_of m q) (bit_of k q)
bit-refuses v m k q = bit-and (bit_xor k v) m q ∙ ap (λ (b : ℕ). bit_and b (bit_of m q)) (bit-xor k v q)

-- those of byte i
abbrev pub refused_in : List ℕ → List ℕ → List ℕ → ℕ → ℕ
refused_in value mask key i = refuses (get_or value i 0) (get_or mask i 0) (get_or key i 0)

module _ (w : ℕ) (value mask key : List ℕ) where
  abbrev agrees : ℕ → Bool
  agrees p = not (exact_at mask p) || same_at value key p

  agrees_at : (i q : ℕ) → q < 8 → agrees (i * 8 + q) ≡ eqb (bit_of (refused_in value mask key i) q) 0
  unfolding exact_at same_at
  agrees_at i q l =
      rw (bit_in value i q l, bit_in mask i q l, bit_in key i q l, bit-refuses (get_or value i 0) (get_or mask i 0) (get_or key i 0) q)
      (agree-bits _ _ _ (bit-of-lt (get_or value i 0) q) (bit-of-lt (get_or mask i 0) q) (bit-of-lt (get_or key i 0) q))

  agrees-byte : (i : ℕ) → refused_in value mask key i < 256 → passes agrees i ≡ eqb (refused_in value mask key i) 0
  agrees-byte i h = by_byte agrees i _ h (agrees_at i)

  -- a pattern matches a key where no byte refuses
  pub matches-yes : (i : ℕ) → Passed (λ k. refused_in value mask key k ≡ 0) i → w ≤ i → true ≡ matches (w * 8) value mask key
  unfolding matches
  matches-yes i is h = row-yes agrees w i (λ k l. agrees-byte k (omega (arith, is.at k l)) ∙ eq-eqb _ 0 (is.at k l)) h

  pub matches-no : (i : ℕ) → i < w → Bytes value → Bytes key → (refused_in value mask key i ≡ 0 → ⊥) → false ≡ matches (w * 8) value mask key
  unfolding matches
  matches-no i l hv hk ne =
      let small = xor_lt 8 (get_or key i 0) (get_or value i 0) (hk.byte i) (hv.byte i) in
      row-no agrees w i l (agrees-byte i (lt_of_le_of_lt (and_le_l _ (get_or mask i 0)) small) ∙ ne_eqb _ 0 ne)

-- ---- two patterns

-- the bits at which two patterns' bytes are parted
abbrev differs : ℕ → ℕ → ℕ → ℕ → ℕ
differs v₁ m₁ v₂ m₂ = bit_and (bit_and (bit_xor v₁ v₂) m₁) m₂

part-bits : (v₁ m₁ v₂ m₂ : ℕ) → v₁ < 2 → m₁ < 2 → v₂ < 2 → m₂ < 2
    → not (eqb m₁ 1 && (eqb m₂ 1 && not (eqb v₁ v₂))) ≡ eqb (differs v₁ m₁ v₂ m₂) 0
unfolding all_below
part-bits v₁ m₁ v₂ m₂ p q r s =
    beq_same _ _
    (on-bits₄ (λ v₁ m₁ v₂ m₂. beq (not (eqb m₁ 1 && (eqb m₂ 1 && not (eqb v₁ v₂)))) (eqb (differs v₁ m₁ v₂ m₂) 0)) refl v₁ m₁ v₂ m₂ p q r s)

bit-differs : (v₁ m₁ v₂ m₂ q : ℕ) → bit_of (differs v₁ m₁ v₂ m₂) q ≡ differs (bit_of v₁ q) (bit_of m₁ q) (bit_of v₂ q) (bit_of m₂ q)
bit-differs v₁ m₁ v₂ m₂ q =
    bit-and (bit_and (bit_xor v₁ v₂) m₁) m₂ q
    ∙ ap (λ (b : ℕ). bit_and b (bit_of m₂ q)) (bit-and (bit_xor v₁ v₂) m₁ q ∙ ap (λ (b : ℕ). bit_and b (bit_of m₁ q)) (bit-xor v₁ v₂ q))

-- those of byte i
abbrev pub parted_in : List ℕ → List ℕ → List ℕ → List ℕ → ℕ → ℕ
parted_in v₁ m₁ v₂ m₂ i = differs (get_or v₁ i 0) (get_or m₁ i 0) (get_or v₂ i 0) (get_or m₂ i 0)

module _ (w : ℕ) (v₁ m₁ v₂ m₂ : List ℕ) where
  abbrev together : ℕ → Bool
  together p = not (parts v₁ m₁ v₂ m₂ p)

  together_at : (i q : ℕ) → q < 8 → together (i * 8 + q) ≡ eqb (bit_of (parted_in v₁ m₁ v₂ m₂ i) q) 0
  unfolding parts exact_at same_at
  together_at i q l =
      rw (bit_in v₁ i q l, bit_in m₁ i q l, bit_in v₂ i q l, bit_in m₂ i q l)
      (rw (bit-differs (get_or v₁ i 0) (get_or m₁ i 0) (get_or v₂ i 0) (get_or m₂ i 0) q)
      (part-bits _ _ _ _ (bit-of-lt (get_or v₁ i 0) q) (bit-of-lt (get_or m₁ i 0) q) (bit-of-lt (get_or v₂ i 0) q) (bit-of-lt (get_or m₂ i 0) q)))

  together-byte : (i : ℕ) → parted_in v₁ m₁ v₂ m₂ i < 256 → passes together i ≡ eqb (parted_in v₁ m₁ v₂ m₂ i) 0
  together-byte i h = by_byte together i _ h (together_at i)

  -- two patterns overlap where no byte parts them
  pub overlap-yes : (i : ℕ) → Passed (λ k. parted_in v₁ m₁ v₂ m₂ k ≡ 0) i → w ≤ i → true ≡ overlap (w * 8) v₁ m₁ v₂ m₂
  unfolding overlap
  overlap-yes i is h = row-yes together w i (λ k l. together-byte k (omega (arith, is.at k l)) ∙ eq-eqb _ 0 (is.at k l)) h

  pub overlap-no : (i : ℕ) → i < w → Bytes v₁ → Bytes v₂ → (parted_in v₁ m₁ v₂ m₂ i ≡ 0 → ⊥) → false ≡ overlap (w * 8) v₁ m₁ v₂ m₂
  unfolding overlap
  overlap-no i l h₁ h₂ ne =
      let small = xor_lt 8 (get_or v₁ i 0) (get_or v₂ i 0) (h₁.byte i) (h₂.byte i) in
      row-no together w i l
      (together-byte i (lt_of_le_of_lt (and_le_l _ (get_or m₂ i 0)) (lt_of_le_of_lt (and_le_l _ (get_or m₁ i 0)) small)) ∙ ne_eqb _ 0 ne)

-- the same of the bytes taken four by four, a value's and a mask's of each
abbrev pub parted_of : (ℕ × ℕ) × (ℕ × ℕ) → ℕ
parted_of t = differs t.0.0 t.0.1 t.1.0 t.1.1

module _ (v₁ m₁ v₂ m₂ : List ℕ) (h₁ : Bytes v₁) (h₂ : Bytes v₂)
    (m₁-long : length m₁ ≡ length v₁) (v₂-long : length v₂ ≡ length v₁) (m₂-long : length m₂ ≡ length v₁) where
  abbrev fours : List ((ℕ × ℕ) × (ℕ × ℕ))
  fours = zip (zip v₁ m₁) (zip v₂ m₂)

  fours-long : length fours ≡ length v₁
  fours-long = length-zip (zip v₁ m₁) (zip v₂ m₂) ∙ omega (arith, length-zip v₁ m₁, length-zip v₂ m₂)

  four_at : (i : ℕ) → i < length v₁ → parted_of (get_or fours i ((0, 0), (0, 0))) ≡ parted_in v₁ m₁ v₂ m₂ i
  four_at i l =
      rw (
        get_or-zip (zip v₁ m₁) (zip v₂ m₂) i ((0, 0), (0, 0)) (omega (arith, length-zip v₁ m₁)) (omega (arith, length-zip v₂ m₂)),
        get_or-zip v₁ m₁ i (0, 0) l (omega arith),
        get_or-zip v₂ m₂ i (0, 0) (omega arith) (omega arith),
      )

  pub overlap-fours : (r : Bool)
      → MatchBool r (AllWithin (λ t. parted_of t ≡ 0) fours 0 (length fours))
      ((k : ℕ) × (k < length fours) × HoldsAt (λ t. parted_of t ≡ 0 → ⊥) fours k)
      → r ≡ overlap (length v₁ * 8) v₁ m₁ v₂ m₂
  overlap-fours true is =
      overlap-yes (length v₁) v₁ m₁ v₂ m₂ (length v₁)
      (none-fails parted_of (parted_in v₁ m₁ v₂ m₂) fours ((0, 0), (0, 0)) (length v₁) fours-long four_at is) (le_refl (length v₁))
  overlap-fours false is =
      overlap-no (length v₁) v₁ m₁ v₂ m₂ is.0 (omega (arith, is.1, fours-long)) h₁ h₂
      (fails-here parted_of (parted_in v₁ m₁ v₂ m₂) fours ((0, 0), (0, 0)) (length v₁) fours-long four_at is.0 is.1 is.2)
