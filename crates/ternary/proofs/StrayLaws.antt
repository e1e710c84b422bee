-- The lowest byte of a value with a bit under a wildcard: what it says of canonical patterns, and the search for it.
-- Assumes nothing.
use mathlib.Core.Path.{◌≡◌, refl, sym, ap, ◌∙◌}
use mathlib.Core.Bool.{Bool, true, false, not, ◌||◌}
use mathlib.Core.List.{List}
use Rattle.std.specs.Prelude.{Option, None, Some}
use Prim.Native.Nat.{ℕ, ◌-◌, ◌*◌, ◌<◌}
use native.Mathlib.Nat.{le_refl}
use native.Mathlib.Omega.{arith}
use lib.Bits.{bit_and}
use lib.Dec.{eqb, ltb}
use lib.ListN.{length, get_or}
use Rattle.std.specs.List.{zip, AllWithin, HoldsAt}
use Rattle.std.specs.Option.{MatchOption}
use Rattle.std.proofs.lemmas.Slice.Zip.{length-zip, get_or-zip}
use Rattle.model.specs.Below.{all_below}
use Rattle.model.specs.Bits.{bit_at, Bytes}
use Rattle.model.specs.Pattern.{exact_at, canonical, stray_in, first_stray}
use Rattle.model.proofs.Cases.{not-true}
use Rattle.model.proofs.BelowLaws.{all-at, all_of, all-fails, all_blocks}
use Rattle.model.proofs.OrderLaws.{foremost-some, foremost-none, first_found, first-missed}
use Rattle.ternary.proofs.StrayBytes.{stray-no, stray-yes}

not-not : (b : Bool) → b ≡ not (not b)
not-not true = refl
not-not false = refl

module _ (w : ℕ) (value mask : List ℕ) where
  -- a pattern is canonical where no byte has a stray
  canonical-bytes : canonical (w * 8) value mask ≡ all_below (λ i. not (stray_in value mask i)) w
  unfolding canonical stray_in
  canonical-bytes = all_blocks (λ p. exact_at mask p || eqb (bit_at value p) 0) (λ i. not (stray_in value mask i)) w (λ i _. not-not _)

  pub canonical-clean : first_stray w value mask ≡ None → canonical (w * 8) value mask ≡ true
  unfolding first_stray
  canonical-clean e =
      canonical-bytes ∙ all_of (λ i. not (stray_in value mask i)) w (λ i l. ap not (foremost-none (stray_in value mask) ltb w e i l))

  pub canonical-stray : (i : ℕ) → first_stray w value mask ≡ Some i → canonical (w * 8) value mask ≡ false
  unfolding first_stray
  canonical-stray i e =
      let here = foremost-some (stray_in value mask) ltb w i e in
      canonical-bytes ∙ all-fails (λ i. not (stray_in value mask i)) w i here.0 (ap not here.1)

  pub clean-canonical : canonical (w * 8) value mask ≡ true → first_stray w value mask ≡ None
  unfolding first_stray
  clean-canonical e =
      first-missed (stray_in value mask) w w
      (record { at = λ i l. not-true (all-at (λ i. not (stray_in value mask i)) w (sym canonical-bytes ∙ e) i l) }) (le_refl w)

-- the bits of a pair of bytes, a value's and a mask's, that are under wildcards
abbrev pub strays_of : ℕ × ℕ → ℕ
strays_of p = bit_and p.0 (255 - p.1)

module _ (value mask : List ℕ) (hv : Bytes value) (hm : Bytes mask) (same : length mask ≡ length value) where
  pair_at : (i : ℕ) → i < length value → get_or (zip value mask) i (0, 0) ≡ (get_or value i 0, get_or mask i 0)
  pair_at i l = get_or-zip value mask i (0, 0) l (omega arith)

  many_pairs : length (zip value mask) ≡ length value
  many_pairs = length-zip value mask ∙ omega arith

  clean-pair : (i : ℕ) → i < length value → strays_of (get_or (zip value mask) i (0, 0)) ≡ 0 → stray_in value mask i ≡ false
  clean-pair i l e = stray-no value mask hv hm i (sym (ap strays_of (pair_at i l)) ∙ e)

  stray-pair : (i : ℕ) → i < length value → (strays_of (get_or (zip value mask) i (0, 0)) ≡ 0 → ⊥) → stray_in value mask i ≡ true
  stray-pair i l ne = stray-yes value mask hv hm i (λ e. ne (ap strays_of (pair_at i l) ∙ e))

  -- what the search of the pairs in order finds is the first stray
  pub first-pair : (r : Option ℕ)
      → MatchOption r (AllWithin (λ p. strays_of p ≡ 0) (zip value mask) 0 (length (zip value mask)))
      (λ i. (i < length (zip value mask)) × HoldsAt (λ p. strays_of p ≡ 0 → ⊥) (zip value mask) i
      × AllWithin (λ p. strays_of p ≡ 0) (zip value mask) 0 i)
      → r ≡ first_stray (length value) value mask
  unfolding first_stray
  first-pair None is =
      sym (first-missed (stray_in value mask) (length value) (length value)
      (record { at = λ k l. clean-pair k l (is k (0, 0) (omega arith) (omega (arith, many_pairs))) }) (le_refl (length value)))
  first-pair (Some i) is =
      let l : i < length value = omega (arith, is.0, many_pairs) in
      sym (first_found (stray_in value mask) (length value) i
      (record { at = λ k k-lt. clean-pair k (omega arith) (is.2 k (0, 0) (omega arith) k-lt) }) l (stray-pair i l (is.1 (0, 0))))
