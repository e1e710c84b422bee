-- A run from cleared ends: how it is refused, and what its output and totals say. Assumes nothing.
use mathlib.Core.Path.{◌≡◌, refl, sym, ap, ◌∙◌}
use mathlib.Core.List.{List, ◌∷◌, map}
use Rattle.std.specs.Prelude.{None, Some, Result, Ok, Err}
use Prim.Native.Nat.{ℕ, zero, suc, ◌*◌, ◌≤◌}
use native.Mathlib.Nat.{le_of_suc-le-suc}
use native.Mathlib.Omega.{arith}
use borrow.Author.Tests.{le-leb, eq-eqb}
use lib.ListN.{length, take, replicate, length-replicate}
use Rattle.ends.specs.Totals.{cleared_totals, totals_after}
use Rattle.ternary.specs.Sizes.{key_size}
use Rattle.buffers.specs.Parts.{spelled}
use Rattle.records.specs.Layout.{outcome_size, slot_size, most_slots, most_packets}
use Rattle.records.specs.Traces.{packet_count}
use Rattle.checks.proofs.RefusalLaws.{or-none}
use Rattle.checks.specs.declared.refusal.Refusal.{Refusal}
use Rattle.checks.specs.BufferRefusals.{slots_refusal}
use Rattle.checks.proofs.FitLaws.{slots-accepted}
use Rattle.records.proofs.SlotBufferLaws.{whole-slots}
use Rattle.totals.specs.Sums.{as_totals, totals_fit}
use Rattle.run.specs.Refusals.{trace_refusal, ends_refusal, run_refusal}
use Rattle.run.specs.Runs.{RunIs}
use Rattle.run.specs.declared.Ran.{Ran}
use Rattle.run_laws.specs.Calls.{PastRun, Made}
use Rattle.run_laws.proofs.AcceptedRuns.{AcceptedRun, accepted-run, refused-by, read_back}
use Rattle.replay_text.specs.Files.{most_trace_bytes}
use Rattle.lines.specs.Printed.{outcome_line}
use Rattle.lines.specs.Listing.{lines_in}
use Rattle.replay_text.specs.Text.{cleared_end, call_refusal, recorded, outcomes_from, run_text, RanCleared}

-- the first m of k zeros
take-zeros : (m k : ℕ) → m ≤ k → take {A = ℕ} m (replicate k 0) ≡ replicate m 0
take-zeros zero k l = refl
take-zeros (suc m) zero l = absurd (omega arith)
take-zeros (suc m) (suc k) l = ap (λ (xs : List ℕ). 0 ∷ xs) (take-zeros m k (le_of_suc-le-suc l))

-- room for every outcome
abbrev output_room : ℕ
output_room = outcome_size * most_packets

module _ (n : ℕ) (some-there : 1 ≤ n) (few-there : n ≤ most_slots) where
  end-accepted : slots_refusal (cleared_end n) ≡ None
  end-accepted =
      (slots-accepted (cleared_end n)).1 (whole-slots (cleared_end n) n (length-replicate (slot_size key_size * n) 0) some-there few-there)

  ends-accepted : ends_refusal (cleared_end n) (cleared_end n) ≡ None
  unfolding ends_refusal
  ends-accepted = rw (end-accepted, eq-eqb (length (cleared_end n)) (length (cleared_end n)) refl)

  -- neither the ends, nor the totals, nor the output's room can refuse it
  call-refusal : (policy trace : List ℕ) → length trace ≤ most_trace_bytes
      → run_refusal policy trace (cleared_end n) (cleared_end n) output_room cleared_totals ≡ call_refusal policy trace
  unfolding run_refusal call_refusal totals_fit
  call-refusal policy trace l =
      let room : outcome_size * packet_count key_size trace ≤ output_room = omega arith in
      rw (ends-accepted, le-leb (outcome_size * packet_count key_size trace) output_room room, or-none (trace_refusal trace))

-- the first n of all cleared slots, as they are lent
pub lent-end : (n : ℕ) (end : List ℕ) → n ≤ most_slots → end ≡ cleared_end most_slots → take (slot_size key_size * n) end ≡ cleared_end n
lent-end n end l e = rw e (take-zeros (slot_size key_size * n) (slot_size key_size * most_slots) (omega arith))

-- what is known of a run from cleared ends, whose output's records were out
module _ (n : ℕ) (some-there : 1 ≤ n) (few-there : n ≤ most_slots) (policy trace : List ℕ) (short : length trace ≤ most_trace_bytes)
    {table keeper out : List ℕ} {ran : Ran} {table' keeper' out' : List ℕ}
    (table-cleared : table ≡ cleared_end n) (keeper-cleared : keeper ≡ cleared_end n)
    (room : length out ≡ output_room) (is : RunIs policy trace table keeper out cleared_totals ran table' keeper' out') where
  abbrev call : PastRun
  call =
      record {
        policy = policy;
        trace = trace;
        table = cleared_end n;
        keeper = cleared_end n;
        out = out;
        ran = ran;
        table' = table';
        keeper' = keeper';
        out' = out';
      }

  made : Made cleared_totals call
  made = rw (table-cleared, keeper-cleared) at is

  refused-same : run_refusal policy trace (cleared_end n) (cleared_end n) (length out) cleared_totals ≡ call_refusal policy trace
  refused-same = rw room (call-refusal n some-there few-there policy trace short)

  cleared-refused : {r : Refusal} → ran.answer ≡ Err r → call_refusal policy trace ≡ Some r
  cleared-refused e = sym refused-same ∙ refused-by cleared_totals call made e

  module _ {k : ℕ} (e : ran.answer ≡ Ok k) where
    accepted : AcceptedRun cleared_totals call k
    accepted = accepted-run cleared_totals call made e

    cleared-fine : call_refusal policy trace ≡ None
    cleared-fine = sym refused-same ∙ accepted.fine

    cleared-few : k ≤ most_packets
    cleared-few = omega (arith, accepted.count)

    cleared-lines : lines_in k out' ≡ spelled outcome_line (map recorded (outcomes_from n policy trace))
    unfolding lines_in
    cleared-lines = ap (spelled outcome_line) (read_back accepted)

    cleared-totals : as_totals ran.totals ≡ totals_after cleared_totals (outcomes_from n policy trace)
    cleared-totals = accepted.sums

  pub ran-cleared : RanCleared n policy trace ran out'
  unfolding run_text
  ran-cleared = go ran.answer refl
    where
      go : (a : Result ℕ Refusal) → ran.answer ≡ a → RanCleared n policy trace ran out'
      go (Err r) e = record { text = rw (e, cleared-refused e); few = rw e (omega arith) }
      go (Ok k) e = record { text = rw (e, cleared-fine e, cleared-lines e, cleared-totals e); few = rw e (cleared-few e) }
