-- Outcomes: what a run tells of each packet. Assumes nothing.
use Rattle.std.specs.Prelude.{ℕ, ◌^◌, ◌<◌, Bool, ◌||◌, cond, List, [], ◌∷◌, ◌++◌, eqb, get_or, Option, None, Some}
use Rattle.ends.specs.Records.{Outcome}
use Rattle.ends.specs.Trace.{nothing}
use Rattle.buffers.specs.BigEndian.{be, to_be}
use Rattle.buffers.specs.Parts.{part}
use Rattle.records.specs.declared.outcome.Outcome.{Outcome as OutcomeStruct}
use Rattle.records.specs.Layout.{outcome_kind, outcome_action, outcome_rule, outcome_slot, outcome_evicted}

-- what an outcome's bytes mean, whatever its zero bytes are
unfoldable pub decode_outcome : List ℕ → Outcome
decode_outcome c =
    record {
      outcome = get_or c outcome_kind 0;
      action = be (part 2 outcome_action c);
      rule = be (part 2 outcome_rule c);
      slot = be (part 2 outcome_slot c);
      evicted = be (part 2 outcome_evicted c);
    }

unfoldable pub encode_outcome : Outcome → List ℕ
encode_outcome x =
    (x.outcome ∷ 0 ∷ [])
    ++ (to_be 2 x.action
    ++ (to_be 2 x.rule
    ++ (to_be 2 x.slot
    ++ (to_be 2 x.evicted
    ++ (0 ∷ 0 ∷ [])))))

-- each field is one that its bytes can hold
pub record OutcomeFits (x : Outcome) : Type 0 where
  pub action-fits : x.action < 2 ^ 16
  pub rule_fits : x.rule < 2 ^ 16
  pub slot-fits : x.slot < 2 ^ 16
  pub evicted-fits : x.evicted < 2 ^ 16

-- no rule and no slot are 65,535
abbrev pub or_nothing : Option ℕ → ℕ
or_nothing None = nothing
or_nothing (Some n) = n

-- and 65,535 is none
unfoldable pub unless_nothing : ℕ → Option ℕ
unless_nothing n = cond (eqb n nothing) None (Some n)

-- the code's struct as the model's record
abbrev pub as_outcome : OutcomeStruct → Outcome
as_outcome x =
    record { outcome = x.outcome; action = x.action; rule = or_nothing x.rule; slot = or_nothing x.slot; evicted = or_nothing x.evicted }

-- the model's outcome as the code's struct
abbrev pub as_struct : Outcome → OutcomeStruct
as_struct x =
    record {
      outcome = x.outcome;
      action = x.action;
      rule = unless_nothing x.rule;
      slot = unless_nothing x.slot;
      evicted = unless_nothing x.evicted;
    }

-- in outcomes 2, 3 and 5 a write is given
unfoldable pub gives_write : ℕ → Bool
gives_write outcome = eqb outcome 2 || (eqb outcome 3 || eqb outcome 5)

-- in 2 and 3 it is of a new entry, which the keeper places
unfoldable pub gives_new_entry : ℕ → Bool
gives_new_entry outcome = eqb outcome 2 || eqb outcome 3
