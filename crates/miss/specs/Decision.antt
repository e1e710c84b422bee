-- A decision on a miss, by value, in the words of the model. Assumes nothing.
use Rattle.std.specs.Prelude.{◌≡◌, cond, List, ℕ, ◌<◌, Option, None, Some, option_map}
use Rattle.std.specs.Option.{ForSome}
use Rattle.ends.specs.Records.{Slot, Write, slot_at}
use Rattle.ends.specs.Ends.{PolicyView, by_policy, is_empty, Miss, miss_write}
use Rattle.ends.specs.Trace.{miss_outcome}
use Rattle.ternary.specs.Sizes.{key_size, positions}
use Rattle.records.specs.Rules.{rules}
use Rattle.end_records.specs.Slots.{slots}
use Rattle.records.specs.SlotBuffers.{slot_count}
use Rattle.end_records.specs.MessageStructs.{as_write}
use Rattle.records.specs.Outcomes.{as_struct, unless_nothing}
use Rattle.records.specs.declared.outcome.Outcome.{Outcome as OutcomeStruct}
use Rattle.miss.specs.declared.decision.Decision.{Decision}

-- the whole policy decides
abbrev pub policy_view : List ℕ → PolicyView
policy_view policy = by_policy positions (rules key_size policy)

-- the write that is given, if one is, as the model has it
abbrev pub given : Decision → Option Write
given d = option_map as_write d.write

-- the decision is that of the miss: its outcome, and its write
pub record DecidedAs (policy keeper : List ℕ) (m : Miss) (d : Decision) : Type 0 where
  pub outcome : d.outcome ≡ as_struct (miss_outcome (policy_view policy) (slots key_size keeper) m)
  pub write : given d ≡ miss_write (slots key_size keeper) m
  -- so a write that is given is of a slot of the keeper
  pub inside : ForSome d.write (λ w. w.slot < slot_count key_size keeper)

-- a decision without a write
pub record NoWrite (outcome action : ℕ) (rule : Option ℕ) (d : Decision) : Type 0 where
  pub told : d.outcome ≡ record { outcome = outcome; action = action; rule = rule; slot = None; evicted = None }
  pub write : d.write ≡ None

-- the outcome of a rule that is written to slot i
abbrev pub entry_outcome : List Slot → ℕ → ℕ → ℕ → OutcomeStruct
entry_outcome k i action rule =
    cond (is_empty (slot_at k i))
    (record { outcome = 2; action = action; rule = Some rule; slot = Some i; evicted = None })
    (record { outcome = 3; action = action; rule = Some rule; slot = Some i; evicted = unless_nothing (slot_at k i).rule })
