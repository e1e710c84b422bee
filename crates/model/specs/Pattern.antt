-- Ternary patterns: a value row and a mask row. n is the number of positions: 104 for keys of 13 bytes. Assumes nothing.
use Rattle.std.specs.Prelude.{Bool, not, ◌&&◌, ◌||◌, List, ℕ, ◌+◌, ◌*◌, ◌-◌, eqb, Option}
use Rattle.model.specs.Below.{all_below, count_below, first_below}
use Rattle.model.specs.Bits.{bit_at}

-- mask bit 1 is exact, 0 is wildcard
unfoldable pub exact_at : List ℕ → ℕ → Bool
exact_at mask p = eqb (bit_at mask p) 1

-- two rows have the same bit at position p
unfoldable pub same_at : List ℕ → List ℕ → ℕ → Bool
same_at a b p = eqb (bit_at a p) (bit_at b p)

-- value and key agree at every exact position
unfoldable pub matches : ℕ → List ℕ → List ℕ → List ℕ → Bool
matches n value mask key = all_below (λ p. not (exact_at mask p) || same_at value key p) n

-- position p is exact in both patterns, with different values
unfoldable pub parts : List ℕ → List ℕ → List ℕ → List ℕ → ℕ → Bool
parts v₁ m₁ v₂ m₂ p = exact_at m₁ p && (exact_at m₂ p && not (same_at v₁ v₂ p))

-- no position parts the two patterns
unfoldable pub overlap : ℕ → List ℕ → List ℕ → List ℕ → List ℕ → Bool
overlap n v₁ m₁ v₂ m₂ = all_below (λ p. not (parts v₁ m₁ v₂ m₂ p)) n

-- the value is 0 at every wildcard
unfoldable pub canonical : ℕ → List ℕ → List ℕ → Bool
canonical n value mask = all_below (λ p. exact_at mask p || eqb (bit_at value p) 0) n

-- byte i of the value has a bit under a wildcard
unfoldable pub stray_in : List ℕ → List ℕ → ℕ → Bool
stray_in value mask i = not (all_below (λ q. exact_at mask (i * 8 + q) || eqb (bit_at value (i * 8 + q)) 0) 8)

-- the lowest such byte of rows of w bytes
unfoldable pub first_stray : ℕ → List ℕ → List ℕ → Option ℕ
first_stray w value mask = first_below (stray_in value mask) w

-- wildcard bits: the positions less the ones of the mask
unfoldable pub wildcards : ℕ → List ℕ → ℕ
wildcards n mask = n - count_below (exact_at mask) n
