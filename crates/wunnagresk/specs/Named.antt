-- The bytes that the answers name by their place: what C finds there. Assumes nothing.
use Rattle.std.specs.Prelude.{◌≡◌, cond, List, [], ℕ, eqb}
use Rattle.buffers.specs.Parts.{part}
use Rattle.policy.specs.RecordAnswers.{record_answer, shown_record}
use Rattle.show.specs.Answers.{show_answer, shown_part}
use Rattle.c_answers.specs.Parts.{record_for_c, show_for_c}
use Rattle.c_answers.specs.declared.structs.WgPart.{WgPart}
use Rattle.c_answers.specs.declared.structs.WgShown.{WgShown}

-- source 1 is the table, 2 the policy
abbrev pub buffer_of : ℕ → List ℕ → List ℕ → List ℕ
buffer_of source policy table = cond (eqb source 1) table (cond (eqb source 2) policy [])

abbrev pub shown_at : List ℕ → List ℕ → WgShown → List ℕ
shown_at policy table s = part s.length s.offset (buffer_of s.source policy table)

abbrev pub record_at : List ℕ → WgPart → List ℕ
record_at policy s = part s.length s.offset policy

-- the place that `wg_show` tells is that of the part that is shown, and so is the place that `wg_rule` tells
pub record NamedParts (policy key table : List ℕ) (number : ℕ) : Type 0 where
  pub decision : shown_at policy table (show_for_c (show_answer policy key table)) ≡ shown_part policy key table
  pub rule : record_at policy (record_for_c (record_answer policy number) number) ≡ shown_record policy number
