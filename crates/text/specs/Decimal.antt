-- Numbers as text: ASCII decimals without leading zeros. Assumes nothing.
use Rattle.std.specs.Prelude.{cond, List, [], ◌∷◌, ◌++◌, ℕ, zero, suc, ◌+◌, ◌/◌, ◌%◌, ltb}

-- the ASCII code of a digit
abbrev pub digit : ℕ → ℕ
digit d = 48 + d

-- the decimal of a number that has at most k digits
unfoldable pub decimal_in : ℕ → ℕ → List ℕ
decimal_in zero n = []
decimal_in (suc k) n = let front = decimal_in k (n / 10) in cond (ltb n 10) (digit n ∷ []) (front ++ (digit (n % 10) ∷ []))

-- no number of 64 bits has more digits
abbrev pub most_digits : ℕ
most_digits = 20

abbrev pub decimal : ℕ → List ℕ
decimal n = decimal_in most_digits n
