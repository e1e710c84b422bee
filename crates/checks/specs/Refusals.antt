-- A refusal: its number and its place; a call's answer. Assumes nothing.
use Rattle.std.specs.Prelude.{Bool, true, false, ℕ, Option, None, Some, Result, Ok, Err, ⊤}
use Rattle.model.specs.Refusals as number
use Rattle.checks.specs.declared.refusal.Refusal.{Refusal}
use Rattle.checks.specs.declared.refusal.Refusal.TheVariants.{Ragged, TooMany, BadRecord, BadSlots, ShortOutput, NoSuchRule, NotBest}
use Rattle.checks.specs.declared.refusal.Refusal.TheVariants.{WrongKind, NoSuchSlot, SequenceZero, ReportAhead, LengthsDiffer, TotalsFull}

-- the number that a refusal carries
abbrev pub number_of : Refusal → ℕ
number_of Ragged = number.ragged
number_of TooMany = number.too_many
number_of (BadRecord place) = number.bad_record
number_of BadSlots = number.bad_slots
number_of ShortOutput = number.short_output
number_of NoSuchRule = number.no_such_rule
number_of NotBest = number.not_best
number_of WrongKind = number.wrong_kind
number_of NoSuchSlot = number.no_such_slot
number_of SequenceZero = number.sequence_zero
number_of ReportAhead = number.report_ahead
number_of LengthsDiffer = number.lengths_differ
number_of TotalsFull = number.totals_full

-- and its place: the bad record's, and 0 in every other case
abbrev pub place_of : Refusal → ℕ
place_of (BadRecord place) = place
place_of _ = 0

-- the first of two tests' refusals
abbrev pub or_else : Option Refusal → Option Refusal → Option Refusal
or_else (Some r) later = Some r
or_else None later = later

-- refused so where the test fails, else as the later tests say
abbrev pub need : Bool → Refusal → Option Refusal → Option Refusal
need true refusal later = later
need false refusal later = Some refusal

-- the one where the call is refused, the other where it is not
abbrev pub unless_refused : {A : Type 0} → Option Refusal → A → A → A
unless_refused (Some r) old new = old
unless_refused None old new = new

-- the refusal, or what is answered where there is none
abbrev pub answer_of : {A : Type 0} → Option Refusal → A → Result A Refusal
answer_of (Some r) x = Err r
answer_of None x = Ok x

-- the same of a call that answers nothing more
abbrev pub verdict_of : Option Refusal → Result ⊤ Refusal
verdict_of refused = answer_of refused tt
