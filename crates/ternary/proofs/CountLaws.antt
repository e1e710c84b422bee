-- The exact bits of a mask, counted as the ones of its bytes, and its wildcard bits. Assumes nothing.
use mathlib.Core.Path.{◌≡◌, refl, sym, ap, ◌∙◌}
use mathlib.Core.List.{List, [], ◌∷◌, map}
use Prim.Native.Nat.{ℕ, zero, suc, ◌+◌, ◌-◌, ◌*◌, ◌≤◌, ◌<◌}
use native.Mathlib.Omega.{arith}
use borrow.Author.Tests.{eqb-true}
use lib.Count.{ones, ones_in}
use lib.Dec.{eqb}
use lib.ListN.{length, get_or}
use Rattle.std.specs.List.{fold, sum}
use Rattle.model.specs.Below.{all_below, count_below, sum_below}
use Rattle.model.specs.Bits.{digit, bit_of, Bytes}
use Rattle.model.specs.Pattern.{exact_at, wildcards}
use Rattle.model.proofs.BelowLaws.{all-at, count-le, count_same, count-blocks}
use Rattle.ternary.specs.Counts.{exact_bits}
use Rattle.ternary.proofs.ByteLaws.{bit_in}

-- the set bits of a byte are its ones
ones-byte : (x : ℕ) → x < 256 → count_below (λ q. eqb (bit_of x q) 1) 8 ≡ ones x
unfolding digit all_below count_below ones ones_in
ones-byte x h = eqb-true _ _ (all-at (λ x. eqb (count_below (λ q. eqb (bit_of x q) 1) 8) (ones x)) 256 refl x h)

-- the ones of a row of w bytes, n positions, are the sum of its bytes' ones
pub ones-row : (w n : ℕ) (row : List ℕ) → Bytes row → w * 8 ≡ n → sum_below (λ i. ones (get_or row i 0)) w ≡ exact_bits n row
unfolding exact_bits exact_at
ones-row w n row h e =
    sym (count-blocks _ _ w (λ i _. count_same _ _ 8 (λ q l. ap (λ (b : ℕ). eqb b 1) (bit_in row i q l)) ∙ ones-byte _ (h.byte i)))
    ∙ ap (count_below (exact_at row)) e

-- a sum with its first term apart
sum-first : (f : ℕ → ℕ) (n : ℕ) → sum_below f (suc n) ≡ f 0 + sum_below (λ i. f (suc i)) n
unfolding sum_below
sum-first f zero = omega arith
sum-first f (suc n) = let e = sum-first f n in omega arith

-- the sum of a list's terms, added from the first on
added : (f : ℕ → ℕ) (acc : ℕ) (xs : List ℕ)
    → fold (λ a x. a + x) acc (map f xs) ≡ acc + sum_below (λ i. f (get_or xs i 0)) (length xs)
unfolding sum_below
added f acc [] = omega arith
added f acc (x ∷ xs) = added f (acc + f x) xs ∙ omega (arith, sum-first (λ i. f (get_or (x ∷ xs) i 0)) (length xs))

-- so the sum of the ones of a mask's bytes counts its exact bits
pub ones-sum : (n : ℕ) (mask : List ℕ) → Bytes mask → length mask * 8 ≡ n → sum (map ones mask) ≡ exact_bits n mask
ones-sum n mask h e =
    let s : sum (map ones mask) ≡ sum_below (λ i. ones (get_or mask i 0)) (length mask) = omega (arith, added ones 0 mask) in
    s ∙ ones-row (length mask) n mask h e

-- they are no more than the positions, and the wildcard bits are the rest
pub exact-le : (n r : ℕ) (mask : List ℕ) → r ≡ exact_bits n mask → r ≤ n
unfolding exact_bits
exact-le n r mask e = omega (arith, count-le (exact_at mask) n)

pub wildcards-rest : (n r : ℕ) (mask : List ℕ) → r ≡ exact_bits n mask → n - r ≡ wildcards n mask
unfolding exact_bits wildcards
wildcards-rest n r mask e = ap (λ (k : ℕ). n - k) e
