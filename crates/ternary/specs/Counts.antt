-- The counts of a mask's bits. Assumes nothing.
use Rattle.std.specs.Prelude.{List, ℕ}
use Rattle.model.specs.Below.{count_below}
use Rattle.model.specs.Pattern.{exact_at}

-- exact bits: the ones of the mask below position n, so that `wildcards n mask` is n less them
unfoldable pub exact_bits : ℕ → List ℕ → ℕ
exact_bits n mask = count_below (exact_at mask) n
