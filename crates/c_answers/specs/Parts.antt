-- Where a record lies that is shown, as numbers. Assumes nothing.
use Rattle.std.specs.Prelude.{ℕ, ◌*◌, Result, Ok, Err, ⊤, Option, None, Some}
use Rattle.ends.specs.Trace.{nothing}
use Rattle.ternary.specs.Sizes.{key_size}
use Rattle.records.specs.Layout.{rule_size, slot_size}
use Rattle.show.specs.declared.Source.{Source}
use Rattle.show.specs.declared.Source.TheVariants.{Table, Policy}
use Rattle.c_answers.specs.declared.structs.WgPart.{WgPart}
use Rattle.checks.specs.declared.refusal.Refusal.{Refusal}
use Rattle.checks.specs.Refusals.{number_of, place_of}
use Rattle.c_answers.specs.declared.structs.WgShown.{WgShown}

-- where the record of that number lies in the policy
abbrev pub record_for_c : Result ⊤ Refusal → ℕ → WgPart
record_for_c (Err r) number = record { refusal = number_of r; place = place_of r; offset = 0; length = 0 }
record_for_c (Ok tt) number = record { refusal = 0; place = 0; offset = rule_size key_size * number; length = rule_size key_size }

-- source 0: nothing; 1: the table; 2: the policy. The record's number, and where its bytes lie in that buffer
abbrev pub show_for_c : Result (Option Source) Refusal → WgShown
show_for_c (Err r) = record { refusal = number_of r; place = place_of r; source = 0; number = 0; offset = 0; length = 0 }
show_for_c (Ok None) = record { refusal = 0; place = 0; source = 0; number = nothing; offset = 0; length = 0 }
show_for_c (Ok (Some (Table i))) =
    record { refusal = 0; place = 0; source = 1; number = i; offset = slot_size key_size * i; length = slot_size key_size }
show_for_c (Ok (Some (Policy r))) =
    record { refusal = 0; place = 0; source = 2; number = r; offset = rule_size key_size * r; length = rule_size key_size }
