-- The position that separates the most of those seen so far. Assumes nothing.
use Rattle.std.specs.Prelude.{◌≡◌, List, ℕ, ◌<◌, length}
use Rattle.model.specs.Below.{most_below, keep}
use Rattle.model.specs.Policy.{Rule}
use Rattle.model.specs.Isolate.{separates}

-- how many of xs position p separates from rule i for the key
abbrev pub separated : List Rule → List ℕ → ℕ → List ℕ → ℕ → ℕ
separated pol key i xs p = length (keep (separates pol key i p) xs)

-- of the indices below p, `best` is the one at which f is largest, the lowest on a tie, and f is `most` there; both are 0 where there is none
pub record Leads (f : ℕ → ℕ) (p best most : ℕ) : Type 0 where
  pub first : best ≡ most_below f p
  pub reached : 0 < p → most ≡ f best
  pub none : p ≡ 0 → most ≡ 0
