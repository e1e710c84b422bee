-- Numbers and their bytes, which std's words for them name too. Assumes nothing.
use Prim.Native.Nat.{ℕ, zero, suc, ◌+◌, ◌*◌, ◌/◌, ◌%◌, ◌^◌, ◌≤◌, ◌<◌}
use mathlib.Core.Path.{◌≡◌, refl, sym, ap, ap₂, ◌∙◌}
use mathlib.Core.List.{List, [], ◌∷◌, ◌++◌, append_assoc, append-nil}
use native.Mathlib.Omega.{arith}
use native.Mathlib.Nat.{pow-suc, add-zero, zero-add}
use lib.ListN.{length, get_or, length-append}
use lib.Seq.{take_all}
use lib.Arith.{digits_div, digits_mod}
use mir.Syntax.{w16, w32}
use Rattle.std.specs.Int.{byte_at, bytes_high_first, from_be_bytes}
use Rattle.std.proofs.Math.Nat.{div-div-eq-div-mul}
use Rattle.model.specs.Bits.{Bytes}
use Rattle.buffers.specs.BigEndian.{be, be_from, to_be}
use Rattle.buffers.specs.Parts.{part}
use Rattle.buffers.proofs.PartLaws.{reads-part, part-split}

be-snoc : (acc : ℕ) (xs : List ℕ) (b : ℕ) → be_from acc (xs ++ (b ∷ [])) ≡ be_from acc xs * 256 + b
be-snoc acc [] b = refl
be-snoc acc (x ∷ xs) b = be-snoc (acc * 256 + x) xs b

-- a number that k bytes can hold is the number that its k bytes spell
pub be-to_be : (k n : ℕ) → n < 256 ^ k → be (to_be k n) ≡ n
unfolding be
be-to_be zero n h = omega arith
be-to_be (suc k) n h =
    let l : n / 256 < 256 ^ k = omega (arith, pow-suc 256 k) in
    be-snoc 0 (to_be k (n / 256)) (n % 256) ∙ rw (be-to_be k (n / 256) l) (omega arith)

to_be-from : (k acc : ℕ) (bs : List ℕ) → Bytes bs → to_be (k + length bs) (be_from acc bs) ≡ to_be k acc ++ bs
to_be-from k acc [] h = rw (add-zero, append-nil)
to_be-from k acc (b ∷ bs) h =
    let low : b < 256 = h.byte 0 in
    let e : k + suc (length bs) ≡ suc k + length bs = omega arith in
    ap (λ (m : ℕ). to_be m (be_from (acc * 256 + b) bs)) e
    ∙ to_be-from (suc k) (acc * 256 + b) bs (record { byte = λ i. h.byte (suc i) })
    ∙ rw (digits_div acc low, digits_mod acc low, append_assoc)

-- bytes are the bytes of the number that they spell
pub to_be-be : (k : ℕ) (bs : List ℕ) → length bs ≡ k → Bytes bs → to_be k (be bs) ≡ bs
unfolding be
to_be-be k bs e h = rw (zero-add, e) at (to_be-from 0 0 bs h)

pub to_be-length : (k n : ℕ) → length (to_be k n) ≡ k
to_be-length zero n = refl
to_be-length (suc k) n = simp length-append (omega (arith, to_be-length k (n / 256)))

-- std's word for the k bytes of a number
byte_above : (i n : ℕ) → byte_at (suc i) n ≡ byte_at i (n / 256)
byte_above zero n = refl
byte_above (suc i) n =
    let e : 256 ^ suc (suc i) ≡ 256 * 256 ^ suc i = omega (arith, pow-suc 256 (suc i)) in
    rw (e, div-div-eq-div-mul n 256 (256 ^ suc i)) refl

high-snoc : (k n : ℕ) → bytes_high_first (suc k) n ≡ bytes_high_first k (n / 256) ++ (n % 256 ∷ [])
high-snoc zero n = refl
high-snoc (suc k) n = ap₂ (λ (b : ℕ) (bs : List ℕ). b ∷ bs) (byte_above k n) (high-snoc k n)

pub high-first : (k n : ℕ) → bytes_high_first k n ≡ to_be k n
high-first zero n = refl
high-first (suc k) n = high-snoc k n ∙ ap (λ (bs : List ℕ). bs ++ (n % 256 ∷ [])) (high-first k (n / 256))

-- a number of two bytes by its bytes, and one of four by its halves
pub be-two : (at : ℕ) (s : List ℕ) → at + 2 ≤ length s → be (part 2 at s) ≡ get_or s at 0 * 256 + get_or s (at + 1) 0
unfolding be
be-two at s h = rw (← reads-part 1 at s h) (omega arith)

pub be-halves : (at : ℕ) (s : List ℕ) → at + 4 ≤ length s → be (part 4 at s) ≡ be (part 2 at s) * 65536 + be (part 2 (at + 2) s)
unfolding be
be-halves at s h =
    rw (part-split 2 2 at s, ← reads-part 1 at s (omega arith), ← reads-part 1 (at + 2) s (omega arith)) (omega arith)

-- std's word for the number of two bytes, and of four
module _ (bs : List ℕ) where
  pub spells-two : length bs ≡ 2 → from_be_bytes w16 bs ≡ be bs
  spells-two e = sym (be-two 0 bs (omega arith)) ∙ ap be (take_all 2 bs (omega arith))

  pub spells-four : length bs ≡ 4 → from_be_bytes w32 bs ≡ be bs
  spells-four e =
      let whole : be (part 4 0 bs) ≡ be bs = ap be (take_all 4 bs (omega arith)) in
      omega (arith, whole, be-halves 0 bs (omega arith), be-two 0 bs (omega arith), be-two 2 bs (omega arith))
