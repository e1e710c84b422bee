-- What the promise of a run says of a call that was accepted, and of one that was refused. Assumes nothing.
use mathlib.Core.Path.{◌≡◌, refl, sym, ap, ◌∙◌}
use mathlib.Core.Bool.{Bool, cond}
use mathlib.Core.List.{List, [], ◌∷◌, ◌++◌, map}
use Rattle.std.specs.Prelude.{Option, None, Some, Result, Ok, Err}
use Prim.Native.Nat.{ℕ, suc, ◌*◌}
use native.Mathlib.Nat.{zero-add}
use native.Mathlib.Omega.{arith}
use lib.ListN.{length, take, drop}
use lib.Seq.{take_at}
use Rattle.ends.specs.Records.{Outcome, Totals}
use Rattle.ends.specs.Totals.{is_hit, is_miss, is_no_rule, is_eviction, count_of, totals_after}
use Rattle.ends.proofs.Totals.{length-outcomes, totals-none}
use Rattle.ternary.specs.Sizes.{key_size, positions}
use Rattle.buffers.specs.Parts.{splice, records_in, spelled}
use Rattle.buffers.proofs.RowLaws.{length-spelled, records-spelled}
use Rattle.records.specs.Layout.{outcome_size}
use Rattle.records.specs.Traces.{packet_count, keys}
use Rattle.records.proofs.TraceLaws.{packet-count}
use Rattle.checks.specs.declared.refusal.Refusal.{Refusal}
use Rattle.end_records.specs.Slots.{encode_slot}
use Rattle.records.specs.Outcomes.{decode_outcome, encode_outcome}
use Rattle.records.proofs.OutcomeLaws.{length-outcome}
use Rattle.miss.specs.Decision.{policy_view}
use Rattle.run.specs.Send.{ends_in}
use Rattle.run.specs.Refusals.{run_refusal}
use Rattle.run.specs.Runs.{outcomes_of, ends_of, RunResult, run_result_of, run_of, ends_left}
use Rattle.run_laws.specs.Calls.{PastRun, Made, left, outcomes_in}

-- what an accepted call of n packets left
pub record AcceptedRun (t : Totals) (c : PastRun) (n : ℕ) : Type 0 where
  pub fine : run_refusal c.policy c.trace c.table c.keeper (length c.out) t ≡ None
  pub count : n ≡ packet_count key_size c.trace
  pub sums : left c ≡ totals_after t (outcomes_of c.policy c.trace c.table c.keeper)
  pub table-bytes : c.table' ≡ spelled encode_slot (ends_of c.policy c.trace c.table c.keeper).table
  pub keeper-bytes : c.keeper' ≡ spelled encode_slot (ends_of c.policy c.trace c.table c.keeper).keeper
  pub told : c.out' ≡ splice 0 (spelled encode_outcome (outcomes_of c.policy c.trace c.table c.keeper)) c.out
  pub meaning : ends_in c.table' c.keeper' ≡ ends_of c.policy c.trace c.table c.keeper

module _ (t : Totals) (c : PastRun) (is : Made t c) where
  abbrev refused_with : Option Refusal
  refused_with = run_refusal c.policy c.trace c.table c.keeper (length c.out) t

  abbrev shown : Option Refusal → RunResult
  shown o = run_result_of o c.policy c.trace c.table c.keeper c.out t

  packets-fine : (o : Option Refusal) {n : ℕ} → Ok n ≡ (shown o).answer → o ≡ None
  packets-fine (Some r) e = let z : ◌≡◌ {A = ℕ} 0 1 = cc in absurd (omega arith)
  packets-fine None e = refl

  refused-some : (o : Option Refusal) {r : Refusal} → Err r ≡ (shown o).answer → o ≡ Some r
  refused-some (Some q) e = cc
  refused-some None e = let z : ◌≡◌ {A = ℕ} 0 1 = cc in absurd (omega arith)

  -- the whole equation, once the tests are known
  whole_of : (o : Option Refusal) → refused_with ≡ o
      → record { answer = c.ran.answer; totals = left c; table = c.table'; keeper = c.keeper'; out = c.out' } ≡ shown o
  unfolding run_of
  whole_of o e = is.whole ∙ ap shown e

  answer-of : c.ran.answer ≡ (shown refused_with).answer
  answer-of = ap (λ (s : RunResult). s.answer) (whole_of refused_with refl)

  pub accepted-run : {n : ℕ} → c.ran.answer ≡ Ok n → AcceptedRun t c n
  accepted-run {n} a =
      let fine : refused_with ≡ None = packets-fine refused_with (sym a ∙ answer-of) in
      let w = whole_of None fine in
      let count : Ok n ≡ Ok (packet_count key_size c.trace) = sym a ∙ ap (λ (s : RunResult). s.answer) w in
      record {
        fine = fine;
        count = cc;
        sums = ap (λ (s : RunResult). s.totals) w;
        table-bytes = ap (λ (s : RunResult). s.table) w;
        keeper-bytes = ap (λ (s : RunResult). s.keeper) w;
        told = ap (λ (s : RunResult). s.out) w;
        meaning = is.meaning ∙ ap (λ o. ends_left o c.policy c.trace c.table c.keeper) fine;
      }

  pub refused-by : {r : Refusal} → c.ran.answer ≡ Err r → refused_with ≡ Some r
  refused-by a = refused-some refused_with (sym a ∙ answer-of)

  pub refused-run : {r : Refusal} → c.ran.answer ≡ Err r → left c ≡ t
  refused-run {r} a = ap (λ (s : RunResult). s.totals) (whole_of (Some r) (refused-by a))

-- ---- the outcomes in the output

module _ {t : Totals} {c : PastRun} {n : ℕ} (is : AcceptedRun t c n) where
  abbrev os : List Outcome
  os = outcomes_of c.policy c.trace c.table c.keeper

  -- as many as packets
  outcome-count : length os ≡ n
  outcome-count =
      length-outcomes positions (policy_view c.policy) (keys key_size c.trace) (ends_in c.table c.keeper)
      ∙ packet-count key_size c.trace
      ∙ sym is.count

  -- they stand at its start
  at-start : c.out' ≡ spelled encode_outcome os ++ drop (length (spelled encode_outcome os)) c.out
  unfolding splice
  at-start = is.told ∙ ap (λ (k : ℕ). spelled encode_outcome os ++ drop k c.out) (zero-add (length (spelled encode_outcome os)))

  pub told-bytes : take (outcome_size * n) c.out' ≡ spelled encode_outcome os
  told-bytes =
      rw at-start
      (take_at (spelled encode_outcome os) _ (outcome_size * n)
      (length-spelled encode_outcome outcome_size length-outcome os ∙ ap (λ (k : ℕ). outcome_size * k) outcome-count))

  -- and are read back from it as they were recorded
  pub read_back : records_in outcome_size decode_outcome n c.out' ≡ map (λ o. decode_outcome (encode_outcome o)) os
  read_back =
      ap (records_in outcome_size decode_outcome n) at-start
      ∙ ap (λ (k : ℕ). records_in outcome_size decode_outcome k (spelled encode_outcome os ++ drop (length (spelled encode_outcome os)) c.out))
      (sym outcome-count)
      ∙ records-spelled outcome_size decode_outcome encode_outcome length-outcome os _

-- the totals look at the kinds alone, and a kind is read as it was written
read_count : (f : ℕ → Bool) (os : List Outcome) → count_of f (map (λ o. decode_outcome (encode_outcome o)) os) ≡ count_of f os
unfolding count_of decode_outcome encode_outcome
read_count f [] = refl
read_count f (o ∷ os) = ap (λ (k : ℕ). cond (f o.outcome) (suc k) k) (read_count f os)

read_length : (os : List Outcome) → length (map (λ o. decode_outcome (encode_outcome o)) os) ≡ length os
read_length [] = refl
read_length (o ∷ os) = ap suc (read_length os)

read-totals : (t : Totals) (os : List Outcome) → totals_after t (map (λ o. decode_outcome (encode_outcome o)) os) ≡ totals_after t os
unfolding totals_after
read-totals t os = rw (read_length os, read_count is_hit os, read_count is_miss os, read_count is_no_rule os, read_count is_eviction os)

-- so the totals after a call are those of the outcomes that its output tells
pub told-totals : (t : Totals) (c : PastRun) → Made t c → (a : Result ℕ Refusal) → c.ran.answer ≡ a → left c ≡ totals_after t (outcomes_in a c.out')
told-totals t c is (Err r) e = refused-run t c is e ∙ sym (totals-none t)
told-totals t c is (Ok n) e =
    let h = accepted-run t c is e in
    h.sums ∙ sym (ap (totals_after t) (read_back h) ∙ read-totals t (outcomes_of c.policy c.trace c.table c.keeper))
