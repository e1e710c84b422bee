-- The lines that the program prints. Assumes nothing.
use Rattle.std.specs.Prelude.{List, [], ◌∷◌, ℕ}
use Rattle.ends.specs.Records.{Outcome, Totals}
use Rattle.text.specs.Decimal.{decimal}
use Rattle.text.specs.Words.{or_dash, line_of}

-- outcome, action, rule, slot, evicted rule
unfoldable pub outcome_line : Outcome → List ℕ
outcome_line x =
    line_of (decimal x.outcome ∷ decimal x.action ∷ or_dash x.rule ∷ or_dash x.slot ∷ or_dash x.evicted ∷ [])

-- packets, hits, misses, no rule, evictions
unfoldable pub totals_line : Totals → List ℕ
totals_line t =
    line_of (decimal t.packets ∷ decimal t.hits ∷ decimal t.misses ∷ decimal t.no_rule ∷ decimal t.evictions ∷ [])

-- the word `refused` in ASCII
abbrev pub refused_word : List ℕ
refused_word = 114 ∷ 101 ∷ 102 ∷ 117 ∷ 115 ∷ 101 ∷ 100 ∷ []

-- `refused`, number, place
unfoldable pub refusal_line : ℕ → ℕ → List ℕ
refusal_line number place = line_of (refused_word ∷ decimal number ∷ decimal place ∷ [])
