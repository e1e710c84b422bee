-- The numbers that C is told of an answer. A refusal: its number and its place, the rest 0. Assumes nothing.
use Rattle.std.specs.Prelude.{ℕ, Result, Ok, Err, ⊤, Option, None, Some}
use Rattle.ends.specs.Trace.{nothing}
use Rattle.policy.specs.declared.search.BestRule.{BestRule}
use Rattle.table.specs.declared.Hit.{Hit}
use Rattle.checks.specs.Refusals.{number_of, place_of}
use Rattle.records.specs.Outcomes.{or_nothing}
use Rattle.records.specs.declared.outcome.Outcome.{Outcome as OutcomeStruct}
use Rattle.c_answers.specs.declared.structs.WgDone.{WgDone}
use Rattle.c_answers.specs.declared.structs.WgCount.{WgCount}
use Rattle.c_answers.specs.declared.structs.WgBestAnswer.{WgBestAnswer}
use Rattle.c_answers.specs.declared.structs.WgFound.{WgFound}
use Rattle.checks.specs.declared.refusal.Refusal.{Refusal}
use Rattle.c_answers.specs.declared.structs.WgOutcome.{WgOutcome}

-- a write, a report
abbrev pub done_for_c : Result ⊤ Refusal → WgDone
done_for_c (Err r) = record { refusal = number_of r; place = place_of r }
done_for_c (Ok tt) = record { refusal = 0; place = 0 }

-- how many rules, numbers written or packets
abbrev pub count_for_c : Result ℕ Refusal → WgCount
count_for_c (Err r) = record { refusal = number_of r; place = place_of r; count = 0 }
count_for_c (Ok n) = record { refusal = 0; place = 0; count = n }

-- no rule: 65,535, and action 0
abbrev pub best_for_c : Result (Option BestRule) Refusal → WgBestAnswer
best_for_c (Err r) = record { refusal = number_of r; place = place_of r; found = 0; rule = 0; action = 0 }
best_for_c (Ok None) = record { refusal = 0; place = 0; found = 0; rule = nothing; action = 0 }
best_for_c (Ok (Some best)) = record { refusal = 0; place = 0; found = 1; rule = best.number; action = best.action }

-- a miss: no slot, no rule, action 0; a hit: the slot's number, rule and action
abbrev pub lookup_for_c : Result (Option Hit) Refusal → WgFound
lookup_for_c (Err r) = record { refusal = number_of r; place = place_of r; hit = 0; slot = 0; rule = 0; action = 0 }
lookup_for_c (Ok None) = record { refusal = 0; place = 0; hit = 0; slot = nothing; rule = nothing; action = 0 }
lookup_for_c (Ok (Some h)) = record { refusal = 0; place = 0; hit = 1; slot = h.slot; rule = h.rule; action = h.action }

-- the outcome's values, with 65,535 for no rule and no slot
abbrev pub miss_for_c : Result OutcomeStruct Refusal → WgOutcome
miss_for_c (Err r) =
    record { refusal = number_of r; place = place_of r; outcome = 0; action = 0; rule = 0; slot = 0; evicted = 0 }
miss_for_c (Ok x) =
    record {
      refusal = 0;
      place = 0;
      outcome = x.outcome;
      action = x.action;
      rule = or_nothing x.rule;
      slot = or_nothing x.slot;
      evicted = or_nothing x.evicted;
    }
