-- A value's bits under wildcards, byte by byte: what code computes from a byte of each row says whether it has one. Assumes nothing.
use mathlib.Core.Path.{◌≡◌, refl, ap, ◌∙◌}
use mathlib.Core.Bool.{Bool, true, false, beq, not, ◌||◌}
use mathlib.Core.List.{List}
use Prim.Native.Nat.{ℕ, ◌+◌, ◌-◌, ◌*◌, ◌<◌}
use native.Mathlib.Nat.{lt_of_le_of_lt}
use borrow.Author.Tests.{eq-eqb, ne_eqb}
use lib.Bits.{bit_and, and_le_l}
use lib.Dec.{eqb}
use lib.ListN.{get_or}
use Rattle.model.specs.Below.{all_below}
use Rattle.model.specs.Bits.{bit_of, bit_at, Bytes}
use Rattle.model.specs.Pattern.{exact_at, stray_in}
use Rattle.ternary.proofs.ByteLaws.{beq_same, on-bits₂, bit-and, bit_not, bit_in, by_byte}
use Rattle.ternary.proofs.PatternBytes.{bit-of-lt}

-- the bits of a value's byte under wildcards
abbrev stray : ℕ → ℕ → ℕ
stray v m = bit_and v (255 - m)

stray-bits : (v m : ℕ) → v < 2 → m < 2 → (eqb m 1 || eqb v 0) ≡ eqb (bit_and v (1 - m)) 0
unfolding all_below
stray-bits v m p q = beq_same _ _ (on-bits₂ (λ v m. beq (eqb m 1 || eqb v 0) (eqb (bit_and v (1 - m)) 0)) refl v m p q)

module _ (value mask : List ℕ) (hv : Bytes value) (hm : Bytes mask) (i : ℕ) where
  abbrev strays : ℕ
  strays = stray (get_or value i 0) (get_or mask i 0)

  abbrev clean : ℕ → Bool
  clean p = exact_at mask p || eqb (bit_at value p) 0

  clean_at : (q : ℕ) → q < 8 → clean (i * 8 + q) ≡ eqb (bit_of strays q) 0
  unfolding exact_at
  clean_at q l =
      rw (bit_in value i q l, bit_in mask i q l, bit-and (get_or value i 0) (255 - get_or mask i 0) q, bit_not (get_or mask i 0) q (hm.byte i) l)
      (stray-bits _ _ (bit-of-lt (get_or value i 0) q) (bit-of-lt (get_or mask i 0) q))

  stray-byte : stray_in value mask i ≡ not (eqb strays 0)
  unfolding stray_in
  stray-byte = ap not (by_byte clean i strays (lt_of_le_of_lt (and_le_l _ (255 - get_or mask i 0)) (hv.byte i)) clean_at)

  pub stray-no : strays ≡ 0 → stray_in value mask i ≡ false
  stray-no e = stray-byte ∙ ap not (eq-eqb strays 0 e)

  pub stray-yes : (strays ≡ 0 → ⊥) → stray_in value mask i ≡ true
  stray-yes ne = stray-byte ∙ ap not (ne_eqb strays 0 ne)
