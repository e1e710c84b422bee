-- How many slots slots.txt gives. Assumes nothing.
use Rattle.std.specs.Prelude.{Bool, ◌&&◌, List, [], ◌∷◌, ℕ, suc, leb, Option}
use Rattle.std.specs.Str.{bytes_eq}
use Rattle.model.specs.Below.{first_below}
use Rattle.records.specs.Layout.{most_slots}
use Rattle.text.specs.Decimal.{decimal}
use Rattle.text.specs.Words.{line_of}

-- the text is n, from 1 on, as a decimal without leading zeros, and one newline
unfoldable pub says_slots : List ℕ → ℕ → Bool
says_slots text n = leb 1 n && bytes_eq text (line_of (decimal n ∷ []))

-- the number up to 256 that the text is, if it is one
unfoldable pub slots_in : List ℕ → Option ℕ
slots_in text = first_below (says_slots text) (suc most_slots)
