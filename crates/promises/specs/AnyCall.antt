-- No call is shut out from the sequences. Assumes nothing.
use Rattle.std.specs.Prelude.{◌≡◌, List, ℕ, ◌≤◌, None, Result, ⊤, Option}
use Rattle.model.specs.Bits.{Bytes}
use Rattle.ends.specs.Records.{Totals}
use Rattle.records.specs.Layout.{most_slots}
use Rattle.policy.specs.Refusals.{policy_refusal}
use Rattle.table.specs.Lookups.{LookedUp}
use Rattle.table.specs.declared.Hit.{Hit}
use Rattle.table.specs.Writes.{Received}
use Rattle.keeper.specs.Reports.{Reported}
use Rattle.keeper.specs.Opens.{Opened}
use Rattle.records.specs.declared.outcome.Outcome.{Outcome as OutcomeStruct}
use Rattle.miss.specs.Answers.{Missed}
use Rattle.run.specs.Runs.{RunIs}
use Rattle.run.specs.declared.Ran.{Ran}
use Rattle.checks.specs.declared.refusal.Refusal.{Refusal}
use Rattle.promises.specs.Calls.{State, cleared_ends, Call, Sequence, Throughout}

-- whatever its arguments, each call has an answer and leaves buffers as its function promises
pub record AnyCall (s : State) : Type 0 where
  pub lookups : (key out : List ℕ) → (r : Result (Option Hit) Refusal) × (table' : List ℕ) × (out' : List ℕ) × LookedUp key s.table out r table' out'
  pub writes : (m out : List ℕ) → Bytes m
      → (r : Result ⊤ Refusal) × (table' : List ℕ) × (out' : List ℕ) × Received s.table m out r table' out'
  pub misses : (policy key out : List ℕ) → Bytes policy
      → (r : Result OutcomeStruct Refusal) × (keeper' : List ℕ) × (out' : List ℕ) × Missed policy key s.keeper out r keeper' out'
  pub reports : (m : List ℕ) → Bytes m → (r : Result ⊤ Refusal) × (keeper' : List ℕ) × Reported s.keeper m r keeper'
  pub opens : (out : List ℕ) → (r : Result ℕ Refusal) × (out' : List ℕ) × Opened s.keeper out r out'
  pub runs : (policy trace out : List ℕ) (t : Totals) → Bytes policy
      → (r : Ran) × (table' : List ℕ) × (keeper' : List ℕ) × (out' : List ℕ) × RunIs policy trace s.table s.keeper out t r table' keeper' out'

-- at every point of every sequence of calls
abbrev pub AnyCallPromise : Type 0
AnyCallPromise = (policy : List ℕ) → Bytes policy → policy_refusal policy ≡ None → (count : ℕ) → 1 ≤ count → count ≤ most_slots
    → (calls : List Call) → Sequence policy (cleared_ends count) calls → Throughout AnyCall (cleared_ends count) calls
