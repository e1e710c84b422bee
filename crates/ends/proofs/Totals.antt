-- The totals: each is the count of its outcomes over all runs, packets = hits + misses + no rule, and a trace cut in two comes to the same.
-- Assumes nothing.
use mathlib.Core.Path.{◌≡◌, refl, sym, ◌∙◌, ap}
use mathlib.Core.Bool.{Bool, cond}
use mathlib.Core.List.{List, [], ◌∷◌, ◌++◌, map, flatten}
use Rattle.std.specs.Prelude.{Option, None, Some}
use Prim.Native.Nat.{ℕ, suc, ◌+◌, ◌≤◌}
use native.Mathlib.Nat.{add_assoc, zero-add, add-zero}
use native.Mathlib.Omega.{arith}
use lib.Dec.{eqb}
use lib.ListN.{length, length-append}
use borrow.Author.Tests.{eqb-true}
use Rattle.model.specs.Below.{all_below}
use Rattle.ends.specs.Records.{Slot, Outcome, Totals, slot_at}
use Rattle.ends.specs.Ends.{Key, PolicyView, Miss, no_rule, again, new_entry, used_up, is_empty, first_for, on_miss}
use Rattle.ends.specs.Trace.{Ends, one_packet, trace, miss_outcome, packet_outcome, one_outcome, outcomes}
use Rattle.ends.specs.Totals.{is_hit, is_miss, is_no_rule, is_eviction, count_of, totals_after, cleared_totals, totals_over, TotalsLaw}
use Rattle.ends.specs.Totals.{CutLaw, Balanced, BalanceLaw, Run, outcomes_of, AllBalanced}
use Rattle.model.proofs.Cases.{by_cases, cond-elim}
use Rattle.model.proofs.BelowLaws.{all-at}

-- ---- cut in two

module _ (n : ℕ) (p : PolicyView) where
  trace-append : (xs ys : List Key) (e : Ends) → trace n p e (xs ++ ys) ≡ trace n p (trace n p e xs) ys
  unfolding trace
  trace-append [] ys e = refl
  trace-append (x ∷ xs) ys e = trace-append xs ys (one_packet n p e x)

  outcomes-append : (xs ys : List Key) (e : Ends) → outcomes n p e (xs ++ ys) ≡ outcomes n p e xs ++ outcomes n p (trace n p e xs) ys
  unfolding outcomes trace
  outcomes-append [] ys e = refl
  outcomes-append (x ∷ xs) ys e = ap (λ os. one_outcome n p e x ∷ os) (outcomes-append xs ys (one_packet n p e x))

pub length-outcomes : (n : ℕ) (p : PolicyView) (keys : List Key) (e : Ends) → length (outcomes n p e keys) ≡ length keys
unfolding outcomes
length-outcomes n p [] e = refl
length-outcomes n p (key ∷ keys) e = ap suc (length-outcomes n p keys (one_packet n p e key))

-- no outcomes add nothing
pub totals-none : (t : Totals) → totals_after t [] ≡ t
unfolding totals_after count_of
totals-none t = rw (add-zero t.packets, add-zero t.hits, add-zero t.misses, add-zero t.no_rule, add-zero t.evictions)

count-append : (f : ℕ → Bool) (os qs : List Outcome) → count_of f (os ++ qs) ≡ count_of f os + count_of f qs
unfolding count_of
count-append f [] qs = omega arith
count-append f (o ∷ os) qs = by_cases (f o.outcome) (λ e. rw e (omega (arith, count-append f os qs))) (λ e. rw e (count-append f os qs))

-- and the totals may be advanced by one outcome at a time
pub totals-append : (t : Totals) (os qs : List Outcome) → totals_after t (os ++ qs) ≡ totals_after (totals_after t os) qs
unfolding totals_after
totals-append t os qs =
    simp (length-append, count-append is_hit, count-append is_miss, count-append is_no_rule, count-append is_eviction, add_assoc)

totals-over : (t : Totals) (runs : List (List Outcome)) → totals_over t runs ≡ totals_after t (flatten runs)
unfolding totals_over flatten
totals-over t [] = sym (totals-none t)
totals-over t (os ∷ runs) = totals-over (totals_after t os) runs ∙ sym (totals-append t os (flatten runs))

pub totals-law : TotalsLaw
unfolding totals_after
totals-law runs =
    rw (totals-over cleared_totals runs)
    (record { packets = zero-add _; hits = zero-add _; misses = zero-add _; no_rule = zero-add _; evictions = zero-add _ })

pub cut-law : CutLaw
cut-law n p e t xs ys =
    record {
      ends = trace-append n p xs ys e;
      answers = outcomes-append n p xs ys e;
      sums = rw (outcomes-append n p xs ys e) (totals-append t (outcomes n p e xs) (outcomes n p (trace n p e xs) ys));
    }

-- ---- the totals add up

-- an outcome of a run is one of 0 to 5
known : (n : ℕ) (p : PolicyView) (k t : List Slot) (key : Key) (f : Option ℕ) → (packet_outcome n p k t key f).outcome ≤ 5
known n p k t key (Some i) = omega arith
known n p k t key None = miss-known (on_miss n p k key)
  where
    miss-known : (m : Miss) → (miss_outcome p k m).outcome ≤ 5
    miss-known no_rule = omega arith
    miss-known (again i) = omega arith
    miss-known (new_entry i e) = cond-elim (λ (o : Outcome). o.outcome ≤ 5) (is_empty (slot_at k i)) (λ _. omega arith) (λ _. omega arith)
    miss-known (used_up r) = omega arith

-- so it is a hit, a miss, or no rule
one-kind : (o : ℕ) → o ≤ 5 → cond (is_hit o) 1 0 + cond (is_miss o) 1 0 + cond (is_no_rule o) 1 0 ≡ 1
unfolding all_below
one-kind o h = eqb-true _ _ (all-at (λ o. eqb (cond (is_hit o) 1 0 + cond (is_miss o) 1 0 + cond (is_no_rule o) 1 0) 1) 6 refl o (omega arith))

count-cons : (f : ℕ → Bool) (o : Outcome) (os : List Outcome) → count_of f (o ∷ os) ≡ cond (f o.outcome) 1 0 + count_of f os
unfolding count_of
count-cons f o os = by_cases (f o.outcome) (λ e. rw e (omega arith)) (λ e. rw e (omega arith))

all_kinds : (n : ℕ) (p : PolicyView) (keys : List Key) (e : Ends) → length (outcomes n p e keys)
    ≡ count_of is_hit (outcomes n p e keys) + count_of is_miss (outcomes n p e keys) + count_of is_no_rule (outcomes n p e keys)
unfolding outcomes
all_kinds n p [] e = unfold count_of in refl
all_kinds n p (key ∷ keys) e =
    let o = one_outcome n p e key in
    let os = outcomes n p (one_packet n p e key) keys in
    let small : o.outcome ≤ 5 = unfold one_outcome in (known n p e.keeper e.table key (first_for n e.table key)) in
    let rest = all_kinds n p keys (one_packet n p e key) in
    omega (arith, rest, one-kind o.outcome small, count-cons is_hit o os, count-cons is_miss o os, count-cons is_no_rule o os)

pub balance-law : BalanceLaw
unfolding totals_after
balance-law n p e keys t h = omega (arith, all_kinds n p keys e)

balanced-over : (t : Totals) → Balanced t → (runs : List Run) → Balanced (totals_over t (map outcomes_of runs))
unfolding totals_over
balanced-over t h [] = h
balanced-over t h (r ∷ runs) =
    balanced-over (totals_after t (outcomes_of r)) (balance-law r.positions r.view r.ends r.keys t h) runs

pub all-balanced : AllBalanced
all-balanced runs = balanced-over cleared_totals refl runs
