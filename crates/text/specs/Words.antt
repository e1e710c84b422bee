-- The words of a line. Assumes nothing.
use Rattle.std.specs.Prelude.{cond, List, [], ◌∷◌, ◌++◌, ℕ, eqb}
use Rattle.ends.specs.Trace.{nothing}
use Rattle.text.specs.Decimal.{decimal}

abbrev pub dash : ℕ
dash = 45

-- a rule or slot number, or a dash where there is none
unfoldable pub or_dash : ℕ → List ℕ
or_dash n = cond (eqb n nothing) (dash ∷ []) (decimal n)

abbrev pub space : ℕ
space = 32

abbrev pub newline : ℕ
newline = 10

-- words with one space between, and a newline after
abbrev pub line_of : List (List ℕ) → List ℕ
line_of [] = newline ∷ []
line_of (word ∷ []) = word ++ (newline ∷ [])
line_of (word ∷ next ∷ words) = word ++ (space ∷ line_of (next ∷ words))
