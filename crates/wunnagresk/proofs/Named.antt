-- The places that the answers tell are those of the parts that are shown. Assumes nothing.
use mathlib.Core.Path.{◌≡◌, refl}
use mathlib.Core.List.{List, []}
use Rattle.std.specs.Prelude.{Option, None, Some, Result, Ok, Err}
use Prim.Native.Nat.{ℕ}
use Rattle.ternary.specs.Sizes.{key_size}
use Rattle.buffers.specs.Parts.{chunk}
use Rattle.records.specs.Layout.{rule_size}
use Rattle.checks.specs.declared.refusal.Refusal.{Refusal}
use Rattle.checks.specs.Refusals.{unless_refused, verdict_of}
use Rattle.policy.specs.RecordAnswers.{record_refusal, record_answer, shown_record}
use Rattle.show.specs.Answers.{part_of, show_answer, shown_part}
use Rattle.show.specs.declared.Source.{Source}
use Rattle.show.specs.declared.Source.TheVariants.{Table, Policy}
use Rattle.c_answers.specs.Parts.{record_for_c, show_for_c}
use Rattle.wunnagresk.specs.Named.{shown_at, record_at, NamedParts}

of-answer : (policy table : List ℕ) (a : Result (Option Source) Refusal) → shown_at policy table (show_for_c a) ≡ part_of policy table a
of-answer policy table (Err r) = refl
of-answer policy table (Ok None) = refl
of-answer policy table (Ok (Some (Table i))) = refl
of-answer policy table (Ok (Some (Policy r))) = refl

of-record : (policy : List ℕ) (number : ℕ) (o : Option Refusal)
    → record_at policy (record_for_c (verdict_of o) number) ≡ unless_refused o [] (chunk (rule_size key_size) policy number)
of-record policy number (Some r) = refl
of-record policy number None = refl

pub named-parts : (policy key table : List ℕ) (number : ℕ) → NamedParts policy key table number
unfolding shown_part record_answer shown_record
named-parts policy key table number =
    record {
      decision = of-answer policy table (show_answer policy key table);
      rule = of-record policy number (record_refusal policy number);
    }
