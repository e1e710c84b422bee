-- One packet of a run, over the buffers of the two ends. Assumes nothing.
use Rattle.std.specs.Prelude.{◌≡◌, List, ℕ}
use Rattle.ends.specs.Records.{Outcome}
use Rattle.ends.specs.Ends.{miss_keeper, miss_write}
use Rattle.ends.specs.Trace.{Ends, sent_to, one_packet, miss_outcome, one_outcome}
use Rattle.ternary.specs.Sizes.{key_size, positions}
use Rattle.end_records.specs.Slots.{slots}
use Rattle.records.specs.SlotBuffers.{WholeSlots}
use Rattle.records.specs.Outcomes.{as_struct}
use Rattle.records.specs.declared.outcome.Outcome.{Outcome as OutcomeStruct}
use Rattle.miss.specs.Decision.{policy_view}
use Rattle.miss.specs.Decide.{FineMiss, miss_in}
use Rattle.run.specs.Send.{ends_in}

-- as much as one packet needs of its parts; a run's refusals ask for more
pub record FinePacket (policy key table keeper : List ℕ) : Type 0 where
  pub fine : FineMiss policy key keeper
  pub table-whole : WholeSlots table

-- what became of a packet: its outcome, and what the two ends then hold
pub record PacketDone (o : Outcome) (e : Ends) (x : OutcomeStruct) (table' keeper' : List ℕ) : Type 0 where
  pub outcome : x ≡ as_struct o
  pub ends : ends_in table' keeper' ≡ e

-- a miss goes to the keeper, and its write to the table
abbrev pub missed_outcome : List ℕ → List ℕ → List ℕ → Outcome
missed_outcome policy key keeper = miss_outcome (policy_view policy) (slots key_size keeper) (miss_in policy key keeper)

abbrev pub missed_ends : List ℕ → List ℕ → List ℕ → List ℕ → Ends
missed_ends policy key table keeper =
    let k = slots key_size keeper in
    let m = miss_in policy key keeper in
    sent_to positions (miss_keeper k m) (slots key_size table) (miss_write k m)

-- the packet
abbrev pub packet_outcome : List ℕ → List ℕ → List ℕ → List ℕ → Outcome
packet_outcome policy key table keeper = one_outcome positions (policy_view policy) (ends_in table keeper) key

abbrev pub packet_ends : List ℕ → List ℕ → List ℕ → List ℕ → Ends
packet_ends policy key table keeper = one_packet positions (policy_view policy) (ends_in table keeper) key
