-- The packets of a run, one after another, over the bytes of the two ends. Assumes nothing.
use Rattle.std.specs.Prelude.{◌≡◌, List, [], ◌∷◌, ℕ, ◌*◌, ◌≤◌, length}
use Rattle.ends.specs.Records.{Outcome, Totals}
use Rattle.ends.specs.Ends.{Key}
use Rattle.ends.specs.Trace.{Ends, trace, outcomes}
use Rattle.ends.specs.Totals.{totals_after}
use Rattle.ternary.specs.Sizes.{key_size, positions}
use Rattle.buffers.specs.Parts.{splice, spelled}
use Rattle.records.specs.Layout.{outcome_size, most_rules, most_packets}
use Rattle.records.specs.Rules.{rule_count}
use Rattle.records.specs.Traces.{packet_count}
use Rattle.records.specs.SlotBuffers.{WholeSlots}
use Rattle.records.specs.Outcomes.{encode_outcome}
use Rattle.miss.specs.Decision.{policy_view}
use Rattle.run.specs.Send.{ends_in}
use Rattle.run.specs.Packets.{packet_outcome, packet_ends}

-- as much as the steps need of a run's buffers; a run's refusals ask for more
pub record RunFits (policy trace table keeper out : List ℕ) : Type 0 where
  pub few : rule_count key_size policy ≤ most_rules
  pub short : packet_count key_size trace ≤ most_packets
  pub table-whole : WholeSlots table
  pub keeper-whole : WholeSlots keeper
  pub room : outcome_size * packet_count key_size trace ≤ length out

-- one step, of the packet whose outcome is the i-th: what became of the two ends, the outcome's bytes, and the totals
pub record Stepped (policy key : List ℕ) (i : ℕ) (table keeper out : List ℕ) (t : Totals) (table' keeper' out' : List ℕ) (t' : Totals) : Type 0 where
  pub ends : ends_in table' keeper' ≡ packet_ends policy key table keeper
  pub out-after : out' ≡ splice (outcome_size * i) (encode_outcome (packet_outcome policy key table keeper)) out
  pub sums : t' ≡ totals_after t (packet_outcome policy key table keeper ∷ [])

-- what a run of these keys tells, and what becomes of the two ends
abbrev pub told_by : List ℕ → List ℕ → List ℕ → List Key → List Outcome
told_by policy table keeper ks = outcomes positions (policy_view policy) (ends_in table keeper) ks

abbrev pub ends_after : List ℕ → List ℕ → List ℕ → List Key → Ends
ends_after policy table keeper ks = trace positions (policy_view policy) (ends_in table keeper) ks

-- these keys were run: the two ends, the outcomes' bytes at the start of the output, and the totals
pub record RanOver (policy : List ℕ) (ks : List Key) (table keeper out : List ℕ) (t : Totals)
    (table' keeper' out' : List ℕ) (t' : Totals) : Type 0 where
  pub ends : ends_in table' keeper' ≡ ends_after policy table keeper ks
  pub out-after : out' ≡ splice 0 (spelled encode_outcome (told_by policy table keeper ks)) out
  pub sums : t' ≡ totals_after t (told_by policy table keeper ks)
