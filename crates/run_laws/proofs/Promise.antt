-- The totals over all calls, and a trace cut into parts. Assumes nothing.
use Rattle.std.specs.Prelude.{Result, Ok, Err}
use mathlib.Core.Path.{◌≡◌, refl, sym, ap, subst, ◌∙◌}
use mathlib.Core.List.{List, [], ◌∷◌, ◌++◌, map, flatten, append-nil}
use Prim.Native.Nat.{ℕ, ◌+◌, ◌*◌}
use native.Mathlib.Omega.{arith}
use lib.ListN.{length, length-append}
use Rattle.ends.specs.Records.{Totals}
use Rattle.ends.specs.Ends.{Key, PolicyView}
use Rattle.ends.specs.Trace.{trace, outcomes}
use Rattle.ends.specs.Totals.{totals_after, totals_over, cleared_totals, Balanced}
use Rattle.ends.proofs.Totals.{totals-law, balance-law, cut-law}
use Rattle.ternary.specs.Sizes.{key_size, positions}
use Rattle.buffers.specs.Parts.{spelled}
use Rattle.buffers.proofs.RowLaws.{spelled-append, records-append}
use Rattle.records.specs.Layout.{trace_size}
use Rattle.records.specs.Traces.{packet_count, keys, decode_trace}
use Rattle.end_records.specs.Slots.{encode_slot}
use Rattle.records.specs.Outcomes.{encode_outcome}
use Rattle.totals.specs.Sums.{as_totals}
use Rattle.miss.specs.Decision.{policy_view}
use Rattle.run.specs.Send.{ends_in}
use Rattle.run.proofs.RunLaws.{run-whole}
use Rattle.run_laws.specs.Calls.{PastRun, Made, left, InTurn, last_of, told_in, TotalsPromise}
use Rattle.run_laws.specs.Calls.{Part, past_run, AcceptedPart, Successive, last_part, joined, told_bytes, CutPromise}
use Rattle.checks.specs.declared.refusal.Refusal.{Refusal}
use Rattle.run_laws.proofs.AcceptedRuns.{AcceptedRun, accepted-run, refused-run, told-bytes, told-totals}

-- ---- totals

over : (t : Totals) (calls : List PastRun) → InTurn t calls → last_of t calls ≡ totals_over t (map told_in calls)
unfolding totals_over
over t [] is = refl
over t (c ∷ cs) is = over (left c) cs is.1 ∙ ap (λ (x : Totals). totals_over x (map told_in cs)) (told-totals t c is.0 c.ran.answer refl)

balanced-call : (t : Totals) (c : PastRun) → Made t c → (a : Result ℕ Refusal) → c.ran.answer ≡ a → Balanced t → Balanced (left c)
balanced-call t c is (Err r) e h = subst Balanced (sym (refused-run t c is e)) h
balanced-call t c is (Ok n) e h =
    subst Balanced (sym (accepted-run t c is e).sums)
    (balance-law positions (policy_view c.policy) (ends_in c.table c.keeper) (keys key_size c.trace) t h)

balanced-over : (t : Totals) (calls : List PastRun) → InTurn t calls → Balanced t → Balanced (last_of t calls)
balanced-over t [] is h = h
balanced-over t (c ∷ cs) is h = balanced-over (left c) cs is.1 (balanced-call t c is.0 c.ran.answer refl h)

pub totals-promise : TotalsPromise
totals-promise calls is =
    record {
      counts = rw (over cleared_totals calls is) (totals-law (map told_in calls));
      balanced = balanced-over cleared_totals calls is refl;
    }

-- ---- a trace cut into parts

-- a cut between records cuts the keys
module _ (xs ys : List ℕ) (whole : length xs ≡ trace_size key_size * packet_count key_size xs) where
  cut-count : packet_count key_size (xs ++ ys) ≡ packet_count key_size xs + packet_count key_size ys
  cut-count = simp length-append (omega (arith, whole))

  cut-keys : keys key_size (xs ++ ys) ≡ keys key_size xs ++ keys key_size ys
  unfolding keys
  cut-keys =
      rw cut-count
      (records-append (trace_size key_size) (decode_trace key_size) (packet_count key_size xs) (packet_count key_size ys) xs ys whole)

module _ (policy : List ℕ) where
  abbrev p : PolicyView
  p = policy_view policy

  -- told, left and summed up as by a run of those keys
  record RanAs (table keeper : List ℕ) (t : Totals) (ks : List Key) (told table' keeper' : List ℕ) (t' : Totals) : Type 0 where
    outcomes-told : told ≡ spelled encode_outcome (outcomes positions p (ends_in table keeper) ks)
    table-left : table' ≡ spelled encode_slot (trace positions p (ends_in table keeper) ks).table
    keeper-left : keeper' ≡ spelled encode_slot (trace positions p (ends_in table keeper) ks).keeper
    sums : t' ≡ totals_after t (outcomes positions p (ends_in table keeper) ks)

  abbrev PartsRan : List ℕ → List ℕ → Totals → List ℕ → List ℕ → Part → Type 0
  PartsRan table keeper t bytes told x = RanAs table keeper t (keys key_size bytes) told x.table' x.keeper' (as_totals x.ran.totals)

  module _ (table keeper : List ℕ) (t : Totals) (x : Part) (is : AcceptedPart policy table keeper t x) where
    ran : AcceptedRun t (past_run policy table keeper x) is.0
    ran = accepted-run t (past_run policy table keeper x) is.2 is.1

    part-ran : PartsRan table keeper t x.trace (told_bytes x) x
    part-ran =
        record {
          outcomes-told = rw is.1 (told-bytes ran);
          table-left = ran.table-bytes;
          keeper-left = ran.keeper-bytes;
          sums = ran.sums;
        }

    -- a part, and then what goes on from the ends and totals that it left
    then-ran : (bytes : List ℕ) {told table' keeper' : List ℕ} {t' : Totals}
        → RanAs x.table' x.keeper' (as_totals x.ran.totals) (keys key_size bytes) told table' keeper' t'
        → RanAs table keeper t (keys key_size (x.trace ++ bytes)) (told_bytes x ++ told) table' keeper' t'
    then-ran bytes more =
        let ks = keys key_size x.trace in
        let ls = keys key_size bytes in
        let e = ends_in table keeper in
        let cut = cut-law positions p e t ks ls in
        let split : keys key_size (x.trace ++ bytes) ≡ ks ++ ls =
        cut-keys x.trace bytes (run-whole policy x.trace table keeper x.out t ran.fine)
        in
        rw split
        (record {
          outcomes-told = rw (part-ran.outcomes-told, cut.answers, ← ran.meaning)
              (ap (λ (s : List ℕ). spelled encode_outcome (outcomes positions p e ks) ++ s) more.outcomes-told
              ∙ sym (spelled-append encode_outcome (outcomes positions p e ks) (outcomes positions p (ends_in x.table' x.keeper') ls)));
          table-left = rw (cut.ends, ← ran.meaning) more.table-left;
          keeper-left = rw (cut.ends, ← ran.meaning) more.keeper-left;
          sums = rw (cut.sums, ← ran.meaning, ← ran.sums) more.sums;
        })

  all-ran : (table keeper : List ℕ) (t : Totals) (first : Part) (more : List Part) → Successive policy table keeper t (first ∷ more)
      → PartsRan table keeper t (joined (first ∷ more)) (flatten (map told_bytes (first ∷ more))) (last_part first more)
  unfolding flatten
  all-ran table keeper t first [] is = rw (append-nil first.trace, append-nil (told_bytes first)) (part-ran table keeper t first is.0)
  all-ran table keeper t first (next ∷ more) is =
      then-ran table keeper t first is.0 (joined (next ∷ more))
      (all-ran first.table' first.keeper' (as_totals first.ran.totals) next more is.1)

pub cut-promise : CutPromise
cut-promise policy table keeper t whole first more is parts e =
    let one = part-ran policy table keeper t whole is in
    let all = rw (← e) at (all-ran policy table keeper t first more parts) in
    record {
      outcomes = one.outcomes-told ∙ sym all.outcomes-told;
      table = one.table-left ∙ sym all.table-left;
      keeper = one.keeper-left ∙ sym all.keeper-left;
      totals = one.sums ∙ sym all.sums;
    }
