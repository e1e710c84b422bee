-- The totals after one packet more, within the limit before a run, and after it. Assumes nothing.
use mathlib.Core.Path.{◌≡◌}
use mathlib.Core.Bool.{Bool, true, ◌&&◌}
use mathlib.Core.List.{List, [], ◌∷◌}
use Prim.Native.Nat.{ℕ, ◌+◌, ◌≤◌}
use native.Mathlib.Omega.{arith}
use lib.Dec.{leb}
use lib.ListN.{length}
use borrow.Author.Tests.{leb-true}
use Rattle.ends.specs.Records.{Outcome, Totals}
use Rattle.ends.specs.Totals.{is_hit, is_miss, is_no_rule, is_eviction, count_of, totals_after}
use Rattle.model.proofs.Cases.{by_cases, and_left, and_right}
use Rattle.totals.specs.Sums.{most_total, totals_fit, AtMost, One}

pub advanced-by : (t : Totals) (o : Outcome) {h m n e : ℕ} → One (is_hit o.outcome) h → One (is_miss o.outcome) m
    → One (is_no_rule o.outcome) n → One (is_eviction o.outcome) e
    → record {
      packets = t.packets + 1;
      hits = t.hits + h;
      misses = t.misses + m;
      no_rule = t.no_rule + n;
      evictions = t.evictions + e;
    } ≡ totals_after t (o ∷ [])
unfolding totals_after count_of
advanced-by t o a b c d = rw (a.is, b.is, c.is, d.is)

-- where the test passes no total is above the limit
pub fit-most : (t : Totals) → totals_fit t ≡ true → AtMost most_total t
unfolding totals_fit
fit-most t e =
    let p = leb t.packets most_total in
    let h = leb t.hits most_total in
    let m = leb t.misses most_total in
    let n = leb t.no_rule most_total in
    let v = leb t.evictions most_total in
    let e₁ : h && (m && (n && v)) ≡ true = and_right p _ e in
    let e₂ : m && (n && v) ≡ true = and_right h _ e₁ in
    let e₃ : n && v ≡ true = and_right m _ e₂ in
    record {
      packets = leb-true _ _ (and_left p _ e);
      hits = leb-true _ _ (and_left h _ e₁);
      misses = leb-true _ _ (and_left m _ e₂);
      no_rule = leb-true _ _ (and_left n v e₃);
      evictions = leb-true _ _ (and_right n v e₃);
    }

count_most : (f : ℕ → Bool) (os : List Outcome) → count_of f os ≤ length os
unfolding count_of
count_most f [] = omega arith
count_most f (o ∷ os) =
    let h = count_most f os in
    by_cases (f o.outcome) (λ e. rw e (omega arith)) (λ e. rw e (omega arith))

-- so many packets raise no total by more
pub after-most : (limit : ℕ) (t : Totals) (os : List Outcome) → AtMost limit t → AtMost (limit + length os) (totals_after t os)
unfolding totals_after
after-most limit t os h =
    record {
      packets = omega (arith, h.packets);
      hits = omega (arith, h.hits, count_most is_hit os);
      misses = omega (arith, h.misses, count_most is_miss os);
      no_rule = omega (arith, h.no_rule, count_most is_no_rule os);
      evictions = omega (arith, h.evictions, count_most is_eviction os);
    }
