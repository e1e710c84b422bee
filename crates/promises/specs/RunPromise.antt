-- Demand 3 about runs: from ends grown from cleared ones neither end refuses within a run. Assumes nothing.
use Rattle.std.specs.Prelude.{◌≡◌, List, ℕ, ◌≤◌, ◌<◌, take, None}
use Rattle.model.specs.Bits.{Bytes}
use Rattle.ends.specs.Trace.{Ends}
use Rattle.ends.specs.TraceLink.{NoInnerRefusal}
use Rattle.ternary.specs.Sizes.{key_size, positions}
use Rattle.records.specs.Layout.{most_slots}
use Rattle.records.specs.Traces.{packet_count, key_in, keys}
use Rattle.policy.specs.Refusals.{policy_refusal}
use Rattle.miss.specs.Decision.{policy_view}
use Rattle.run.specs.Steps.{ends_after}
use Rattle.promises.specs.Calls.{State, cleared_ends, Call, Sequence, Throughout}

-- the two ends, decoded, when a run has taken the first n packets of the trace
abbrev pub ends_before : List ℕ → State → List ℕ → ℕ → Ends
ends_before policy s trace n = ends_after policy s.table s.keeper (take n (keys key_size trace))

-- at each packet of any trace, run from here: the keeper takes a hit's report, the table a miss's write, and the keeper that write's report
pub record QuietRuns (policy : List ℕ) (s : State) : Type 0 where
  pub quiet : (trace : List ℕ) (n : ℕ) → n < packet_count key_size trace
      → NoInnerRefusal positions (policy_view policy) (ends_before policy s trace n) (key_in key_size trace n)

-- For every policy that the check does not refuse, 1 to 256 slots, and every sequence of calls from cleared ends, runs among them: at every point.
abbrev pub RunPromise : Type 0
RunPromise = (policy : List ℕ) → Bytes policy → policy_refusal policy ≡ None → (count : ℕ) → 1 ≤ count → count ≤ most_slots
    → (calls : List Call) → Sequence policy (cleared_ends count) calls → Throughout (QuietRuns policy) (cleared_ends count) calls
