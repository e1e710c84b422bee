-- Big-endian numbers. Assumes nothing.
use Rattle.std.specs.Prelude.{ℕ, zero, suc, ◌+◌, ◌*◌, ◌/◌, ◌%◌, List, [], ◌∷◌, ◌++◌}

-- the number whose bytes are `acc`'s and then those of the list
abbrev pub be_from : ℕ → List ℕ → ℕ
be_from acc [] = acc
be_from acc (b ∷ bs) = be_from (acc * 256 + b) bs

-- the number that a list of bytes spells, the first byte being the highest
unfoldable pub be : List ℕ → ℕ
be bs = be_from 0 bs

-- the k lowest bytes of n, the highest of them first
abbrev pub to_be : ℕ → ℕ → List ℕ
to_be zero n = []
to_be (suc k) n = to_be k (n / 256) ++ (n % 256 ∷ [])
