-- Demand 3 about bytes: what holds of the two ends' buffers at every point of every sequence of calls. Assumes nothing.
use Rattle.std.specs.Prelude.{◌≡◌, ◌≢◌, ℕ, ◌*◌, ◌≤◌, ◌<◌, length, None, Ok, Result, Err, Option, Some}
use mathlib.Core.List.{List, Memᴰ}
use Rattle.model.specs.Bits.{Bytes}
use Rattle.ends.specs.Records.{Entry, entry_of}
use Rattle.ternary.specs.Sizes.{key_size}
use Rattle.buffers.specs.BigEndian.{be}
use Rattle.buffers.specs.Parts.{part}
use Rattle.records.specs.Layout.{report_size, most_slots}
use Rattle.end_records.specs.Slots.{slot_in}
use Rattle.policy.specs.Refusals.{policy_refusal}
use Rattle.policy.specs.BestAnswers.{best_answer}
use Rattle.policy.specs.declared.search.BestRule.{BestRule}
use Rattle.table.specs.Lookups.{lookup_answer}
use Rattle.table.specs.declared.Hit.{Hit}
use Rattle.table.specs.Writes.{write_call_refusal}
use Rattle.keeper.specs.Reports.{report_refused}
use Rattle.keeper.specs.Opens.{open_refusal, Opened}
use Rattle.checks.specs.declared.refusal.Refusal.{Refusal}
use Rattle.promises.specs.Calls.{State, cleared_ends, Call, Sequence, Throughout}

-- a lookup's answer is a miss, or the best rule's number and that rule's action
abbrev pub MissOrBest : Result (Option Hit) Refusal → Result (Option BestRule) Refusal → Type 0
MissOrBest (Err r) best = ⊥
MissOrBest (Ok None) best = Unit {0}
MissOrBest (Ok (Some hit)) best = best ≡ Ok (Some (record { number = hit.rule; action = hit.action }))

-- the entry that the 40 bytes of slot i decode to
abbrev pub entry_of_bytes : List ℕ → ℕ → Entry
entry_of_bytes bs i = entry_of (slot_in key_size bs i)

-- what holds of the two ends, of so many slots each, at any point
pub record KeptBytes (policy : List ℕ) (count : ℕ) (s : State) : Type 0 where
  -- the lookup call answers every key of 13 bytes with a miss or with the best rule and its action, where the output has room for a report
  pub best : (key : List ℕ) (out_len : ℕ) → length key ≡ key_size → report_size ≤ out_len
      → MissOrBest (lookup_answer key s.table out_len) (best_answer policy key)
  -- the open call is not refused where the output has room for every slot's number
  pub opens : (out_len : ℕ) → 2 * count ≤ out_len → open_refusal s.keeper out_len ≡ None
  -- a slot whose bytes decode to different entries at the two ends is one of the numbers that it wrote
  pub differs : (i : ℕ) → i < count → entry_of_bytes s.keeper i ≢ entry_of_bytes s.table i
      → (n : ℕ) (out out' : List ℕ) → Opened s.keeper out (Ok n) out' → (j : ℕ) × (j < n) × (be (part 2 (2 * j) out') ≡ i)
  -- so an empty answer means the same entry in every slot
  pub same : (out out' : List ℕ) → Opened s.keeper out (Ok 0) out'
      → (i : ℕ) → i < count → entry_of_bytes s.keeper i ≡ entry_of_bytes s.table i
  -- no message that was given is refused, where the output has room for a report
  pub writes_taken : (m : List ℕ) → Memᴰ m s.writes → (out_len : ℕ) → report_size ≤ out_len → write_call_refusal s.table m out_len ≡ None
  pub reports_taken : (m : List ℕ) → Memᴰ m s.reports → report_refused s.keeper m ≡ None

-- For every policy that the check does not refuse, 1 to 256 slots, and every sequence of calls from cleared ends, runs among them: at every point.
abbrev pub LinkPromise : Type 0
LinkPromise = (policy : List ℕ) → Bytes policy → policy_refusal policy ≡ None → (count : ℕ) → 1 ≤ count → count ≤ most_slots
    → (calls : List Call) → Sequence policy (cleared_ends count) calls → Throughout (KeptBytes policy count) (cleared_ends count) calls
