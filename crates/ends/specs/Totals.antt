-- The totals that runs advance, and what they come to. Assumes nothing.
use Rattle.std.specs.Prelude.{◌≡◌, Bool, cond, ◌&&◌, ℕ, suc, ◌+◌, eqb, leb, length}
use mathlib.Core.List.{List, [], ◌∷◌, ◌++◌, map, flatten}
use Rattle.ends.specs.Records.{Outcome, Totals}
use Rattle.ends.specs.Ends.{Key, PolicyView}
use Rattle.ends.specs.Trace.{Ends, trace, outcomes}

-- hits (1), misses (2 to 5), no rule (0), evictions (3)
abbrev pub is_hit : ℕ → Bool
is_hit o = eqb o 1

abbrev pub is_miss : ℕ → Bool
is_miss o = leb 2 o && leb o 5

abbrev pub is_no_rule : ℕ → Bool
is_no_rule o = eqb o 0

abbrev pub is_eviction : ℕ → Bool
is_eviction o = eqb o 3

-- how many of the outcomes are such
unfoldable pub count_of : (ℕ → Bool) → List Outcome → ℕ
count_of f [] = 0
count_of f (o ∷ os) = let c = count_of f os in cond (f o.outcome) (suc c) c

abbrev pub cleared_totals : Totals
cleared_totals = record { packets = 0; hits = 0; misses = 0; no_rule = 0; evictions = 0 }

-- the totals after the outcomes of one run more
unfoldable pub totals_after : Totals → List Outcome → Totals
totals_after t os =
    record {
      packets = t.packets + length os;
      hits = t.hits + count_of is_hit os;
      misses = t.misses + count_of is_miss os;
      no_rule = t.no_rule + count_of is_no_rule os;
      evictions = t.evictions + count_of is_eviction os;
    }

-- ---- what is proved

-- the totals after these runs, one after another, each given by its outcomes
unfoldable pub totals_over : Totals → List (List Outcome) → Totals
totals_over t [] = t
totals_over t (os ∷ runs) = totals_over (totals_after t os) runs

-- each total is the count of its outcomes
pub record CountsOf (os : List Outcome) (t : Totals) : Type 0 where
  pub packets : t.packets ≡ length os
  pub hits : t.hits ≡ count_of is_hit os
  pub misses : t.misses ≡ count_of is_miss os
  pub no_rule : t.no_rule ≡ count_of is_no_rule os
  pub evictions : t.evictions ≡ count_of is_eviction os

-- from cleared totals, over all runs
abbrev pub TotalsLaw : Type 0
TotalsLaw = (runs : List (List Outcome)) → CountsOf (flatten runs) (totals_over cleared_totals runs)

-- packets = hits + misses + no rule, after a run where it held before
abbrev pub Balanced : Totals → Type 0
Balanced t = t.packets ≡ t.hits + t.misses + t.no_rule

abbrev pub BalanceLaw : Type 0
BalanceLaw = (n : ℕ) (p : PolicyView) (e : Ends) (keys : List Key) (t : Totals)
    → Balanced t → Balanced (totals_after t (outcomes n p e keys))

-- a run: whatever the policy, the ends and the keys
pub record Run : Type 0 where
  pub positions : ℕ
  pub view : PolicyView
  pub ends : Ends
  pub keys : List Key

abbrev pub outcomes_of : Run → List Outcome
outcomes_of r = outcomes r.positions r.view r.ends r.keys

-- so from cleared totals, over all runs
abbrev pub AllBalanced : Type 0
AllBalanced = (runs : List Run) → Balanced (totals_over cleared_totals (map outcomes_of runs))

-- a trace cut in two and run in two calls gives the same ends, outcomes and totals
pub record Cut (n : ℕ) (p : PolicyView) (e : Ends) (t : Totals) (xs ys : List Key) : Type 0 where
  pub ends : trace n p e (xs ++ ys) ≡ trace n p (trace n p e xs) ys
  pub answers : outcomes n p e (xs ++ ys) ≡ outcomes n p e xs ++ outcomes n p (trace n p e xs) ys
  pub sums : totals_after t (outcomes n p e (xs ++ ys))
      ≡ totals_after (totals_after t (outcomes n p e xs)) (outcomes n p (trace n p e xs) ys)

abbrev pub CutLaw : Type 0
CutLaw = (n : ℕ) (p : PolicyView) (e : Ends) (t : Totals) (xs ys : List Key) → Cut n p e t xs ys
