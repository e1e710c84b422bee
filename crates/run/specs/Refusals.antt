-- How a run is refused, in the order of the tests. Assumes nothing.
use Rattle.std.specs.Prelude.{List, ℕ, ◌*◌, leb, eqb, length, Option, None}
use Rattle.ends.specs.Records.{Totals}
use Rattle.checks.specs.declared.refusal.Refusal.TheVariants.{LengthsDiffer, ShortOutput, TotalsFull}
use Rattle.ternary.specs.Sizes.{key_size}
use Rattle.records.specs.Layout.{trace_size, outcome_size, most_packets}
use Rattle.records.specs.Traces.{packet_count}
use Rattle.checks.specs.Refusals.{or_else, need}
use Rattle.checks.specs.declared.refusal.Refusal.{Refusal}
use Rattle.checks.specs.Flaws.{trace_flaw}
use Rattle.checks.specs.Flawed.{records_refusal}
use Rattle.checks.specs.BufferRefusals.{slots_refusal}
use Rattle.policy.specs.Refusals.{policy_refusal}
use Rattle.totals.specs.Sums.{totals_fit}

-- trace 1, 2, 3
unfoldable pub trace_refusal : List ℕ → Option Refusal
trace_refusal bs = records_refusal (trace_size key_size) most_packets (trace_flaw key_size) bs

-- table 4; keeper 4; 12
unfoldable pub ends_refusal : List ℕ → List ℕ → Option Refusal
ends_refusal table keeper =
    or_else (slots_refusal table) (or_else (slots_refusal keeper) (need (eqb (length table) (length keeper)) LengthsDiffer None))

-- policy 1, 2, 3; trace 1, 2, 3; table 4; keeper 4; 12; 13; 5, where the output has out_len bytes
unfoldable pub run_refusal : List ℕ → List ℕ → List ℕ → List ℕ → ℕ → Totals → Option Refusal
run_refusal policy trace table keeper out_len t =
    or_else (policy_refusal policy)
    (or_else (trace_refusal trace)
    (or_else (ends_refusal table keeper)
    (need (totals_fit t) TotalsFull (need (leb (outcome_size * packet_count key_size trace) out_len) ShortOutput None))))
