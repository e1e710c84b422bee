-- What a run answers, and what it leaves in the buffers and the totals. Assumes nothing.
use Rattle.std.specs.Prelude.{◌≡◌, List, ℕ, length, Option, None, Some, Result, Ok, Err}
use Rattle.ends.specs.Records.{Outcome, Totals}
use Rattle.ends.specs.Trace.{Ends}
use Rattle.ends.specs.Totals.{totals_after}
use Rattle.ternary.specs.Sizes.{key_size}
use Rattle.buffers.specs.Parts.{splice, spelled}
use Rattle.records.specs.Traces.{packet_count, keys}
use Rattle.checks.specs.declared.refusal.Refusal.{Refusal}
use Rattle.end_records.specs.Slots.{encode_slot}
use Rattle.records.specs.Outcomes.{encode_outcome}
use Rattle.totals.specs.Sums.{as_totals}
use Rattle.run.specs.Send.{ends_in}
use Rattle.run.specs.Steps.{told_by, ends_after}
use Rattle.run.specs.Refusals.{run_refusal}
use Rattle.run.specs.declared.Ran.{Ran}

-- the model's run over the decoded bytes: its outcomes, and the two ends after it
abbrev pub outcomes_of : List ℕ → List ℕ → List ℕ → List ℕ → List Outcome
outcomes_of policy trace table keeper = told_by policy table keeper (keys key_size trace)

abbrev pub ends_of : List ℕ → List ℕ → List ℕ → List ℕ → Ends
ends_of policy trace table keeper = ends_after policy table keeper (keys key_size trace)

-- all that a call shows: the answer, the totals, and the bytes of the three buffers
pub record RunResult : Type 0 where
  pub answer : Result ℕ Refusal
  pub totals : Totals
  pub table : List ℕ
  pub keeper : List ℕ
  pub out : List ℕ

-- a refusal leaves all as it was; else the totals advance, the ends are those of the model's run, and the outcomes go to the output's start
abbrev pub run_result_of : Option Refusal → List ℕ → List ℕ → List ℕ → List ℕ → List ℕ → Totals → RunResult
run_result_of (Some r) policy trace table keeper out t = record { answer = Err r; totals = t; table = table; keeper = keeper; out = out }
run_result_of None policy trace table keeper out t =
    record {
      answer = Ok (packet_count key_size trace);
      totals = totals_after t (outcomes_of policy trace table keeper);
      table = spelled encode_slot (ends_of policy trace table keeper).table;
      keeper = spelled encode_slot (ends_of policy trace table keeper).keeper;
      out = splice 0 (spelled encode_outcome (outcomes_of policy trace table keeper)) out;
    }

unfoldable pub run_of : List ℕ → List ℕ → List ℕ → List ℕ → List ℕ → Totals → RunResult
run_of policy trace table keeper out t = run_result_of (run_refusal policy trace table keeper (length out) t) policy trace table keeper out t

-- the two ends after it
abbrev pub ends_left : Option Refusal → List ℕ → List ℕ → List ℕ → List ℕ → Ends
ends_left (Some r) policy trace table keeper = ends_in table keeper
ends_left None policy trace table keeper = ends_of policy trace table keeper

abbrev pub result_of : Ran → List ℕ → List ℕ → List ℕ → RunResult
result_of r table keeper out = record { answer = r.answer; totals = as_totals r.totals; table = table; keeper = keeper; out = out }

-- what a run is, with r its answer and totals and the buffers after it: one equation, and what the two ends then mean
pub record RunIs (policy trace table keeper out : List ℕ) (t : Totals) (r : Ran) (table' keeper' out' : List ℕ) : Type 0 where
  pub whole : result_of r table' keeper' out' ≡ run_of policy trace table keeper out t
  pub meaning : ends_in table' keeper' ≡ ends_left (run_refusal policy trace table keeper (length out) t) policy trace table keeper
