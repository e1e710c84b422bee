-- The totals that runs advance: the struct's meaning, and the limit before a run. Assumes nothing.
use Rattle.std.specs.Prelude.{◌≡◌, Bool, cond, ◌&&◌, ℕ, ◌≤◌, leb}
use Rattle.ends.specs.Records.{Totals}
use Rattle.totals.specs.declared.Totals.{Totals as TotalsStruct}

-- the code's struct as the model's record
abbrev pub as_totals : TotalsStruct → Totals
as_totals t = record { packets = t.packets; hits = t.hits; misses = t.misses; no_rule = t.none; evictions = t.evictions }

-- no total may be above this before a run
abbrev pub most_total : ℕ
most_total = 9000000000000000000

-- none is
unfoldable pub totals_fit : Totals → Bool
totals_fit t =
    leb t.packets most_total
    && (leb t.hits most_total && (leb t.misses most_total && (leb t.no_rule most_total && leb t.evictions most_total)))

-- each total is at most so much
pub record AtMost (limit : ℕ) (t : Totals) : Type 0 where
  pub packets : t.packets ≤ limit
  pub hits : t.hits ≤ limit
  pub misses : t.misses ≤ limit
  pub no_rule : t.no_rule ≤ limit
  pub evictions : t.evictions ≤ limit

-- 1 where the test passes, else 0
pub record One (b : Bool) (r : ℕ) : Type 0 where
  pub is : r ≡ cond b 1 0
  pub small : r ≤ 1
