-- The two ends' bytes and the link between them: calls with any arguments, one after the other, trace runs among them. Each message that an
-- accepted call gave is kept, so it may arrive at any later time, in any order, any number of times, or never. Assumes nothing.
use Rattle.std.specs.Prelude.{◌≡◌, cond, ℕ, ◌*◌, length, take, replicate, Option, None, Some, Result, Ok, Err, ⊤}
use mathlib.Core.List.{List, [], ◌∷◌, Memᴰ}
use Rattle.ends.specs.Records.{Totals}
use Rattle.ends.specs.World.{sent}
use Rattle.ternary.specs.Sizes.{key_size}
use Rattle.records.specs.Layout.{slot_size, write_size, report_size}
-- what the calls promise and when they refuse
use Rattle.table.specs.Lookups.{LookedUp}
use Rattle.table.specs.declared.Hit.{Hit}
use Rattle.table.specs.Writes.{write_call_refusal, Received}
use Rattle.keeper.specs.Reports.{report_refused, Reported}
use Rattle.keeper.specs.Opens.{Opened}
use Rattle.records.specs.Outcomes.{gives_write}
use Rattle.records.specs.declared.outcome.Outcome.{Outcome as OutcomeStruct}
use Rattle.miss.specs.Answers.{miss_refused, Missed}
use Rattle.run.specs.Refusals.{run_refusal}
use Rattle.run.specs.Runs.{RunIs}
use Rattle.checks.specs.declared.refusal.Refusal.{Refusal}
use Rattle.run.specs.declared.Ran.{Ran}

-- the buffers of the two ends, and the bytes of every message that an accepted call gave, the last first
pub record State : Type 0 where
  pub keeper : List ℕ
  pub table : List ℕ
  pub writes : List (List ℕ)
  pub reports : List (List ℕ)

-- both buffers with so many slots, all zero, and no message given
unfoldable pub cleared_ends : ℕ → State
cleared_ends count =
    record {
      keeper = replicate (slot_size key_size * count) 0;
      table = replicate (slot_size key_size * count) 0;
      writes = [];
      reports = [];
    }

-- a call that was made on an end's buffer, or on both: its other arguments, its answer, and the buffers after it, those of the end or ends and of
-- the output
pub data Call : Type 0 where
  lookup : (key out : List ℕ) → Result (Option Hit) Refusal → (table out' : List ℕ) → Call
  write : (message out : List ℕ) → Result ⊤ Refusal → (table out' : List ℕ) → Call
  miss : (policy key out : List ℕ) → Result OutcomeStruct Refusal → (keeper out' : List ℕ) → Call
  report : (message : List ℕ) → Result ⊤ Refusal → (keeper : List ℕ) → Call
  open_slots : (out : List ℕ) → Result ℕ Refusal → (out' : List ℕ) → Call
  run : (policy trace out : List ℕ) → Totals → Ran → (table keeper out' : List ℕ) → Call

-- ---- one call

-- its answer and the buffers after it are those that its function promises
abbrev pub Promised : State → Call → Type 0
Promised s (lookup key out r table' out') = LookedUp key s.table out r table' out'
Promised s (write m out r table' out') = Received s.table m out r table' out'
Promised s (miss policy key out r keeper' out') = Missed policy key s.keeper out r keeper' out'
Promised s (report m r keeper') = Reported s.keeper m r keeper'
Promised s (open_slots out r out') = Opened s.keeper out r out'
Promised s (run policy trace out t r table' keeper' out') = RunIs policy trace s.table s.keeper out t r table' keeper' out'

-- what the link and the agent do: a message that is not refused was given before, and a miss or a run that is not refused uses the one policy
abbrev pub Linked : List ℕ → State → Call → Type 0
Linked one s (lookup key out r table' out') = Unit {0}
Linked one s (write m out r table' out') = write_call_refusal s.table m (length out) ≡ None → Memᴰ m s.writes
Linked one s (miss policy key out r keeper' out') = miss_refused policy key s.keeper (length out) ≡ None → policy ≡ one
Linked one s (report m r keeper') = report_refused s.keeper m ≡ None → Memᴰ m s.reports
Linked one s (open_slots out r out') = Unit {0}
Linked one s (run policy trace out t r table' keeper' out') = run_refusal policy trace s.table s.keeper (length out) t ≡ None → policy ≡ one

-- the message that a call gave, by its answer: the first bytes of the output after it
abbrev pub lookup_gave : Result (Option Hit) Refusal → List ℕ → Option (List ℕ)
lookup_gave (Err r) out = None
lookup_gave (Ok None) out = None
lookup_gave (Ok (Some hit)) out = Some (take report_size out)

abbrev pub write_gave : Result ⊤ Refusal → List ℕ → Option (List ℕ)
write_gave (Err r) out = None
write_gave (Ok tt) out = Some (take report_size out)

abbrev pub miss_gave : Result OutcomeStruct Refusal → List ℕ → Option (List ℕ)
miss_gave (Err r) out = None
miss_gave (Ok x) out = cond (gives_write x.outcome) (Some (take (write_size key_size) out)) None

-- the state after it; the messages inside a run are delivered at once, and are not among those given
abbrev pub after : State → Call → State
after s (lookup key out r table' out') =
    record { keeper = s.keeper; table = table'; writes = s.writes; reports = sent (lookup_gave r out') s.reports }
after s (write m out r table' out') =
    record { keeper = s.keeper; table = table'; writes = s.writes; reports = sent (write_gave r out') s.reports }
after s (miss policy key out r keeper' out') =
    record { keeper = keeper'; table = s.table; writes = sent (miss_gave r out') s.writes; reports = s.reports }
after s (report m r keeper') = record { keeper = keeper'; table = s.table; writes = s.writes; reports = s.reports }
after s (open_slots out r out') = s
after s (run policy trace out t r table' keeper' out') = record { keeper = keeper'; table = table'; writes = s.writes; reports = s.reports }

-- ---- a sequence of calls

-- each of the calls does what its function promises and what the link allows, in the state that those before it left
abbrev pub Sequence : List ℕ → State → List Call → Type 0
Sequence one s [] = Unit {0}
Sequence one s (c ∷ cs) = (Promised s c × Linked one s c) × Sequence one (after s c) cs

-- P holds at every point of the sequence: before the first call, between any two, and after the last
abbrev pub Throughout : (State → Type 0) → State → List Call → Type 0
Throughout P s [] = P s
Throughout P s (c ∷ cs) = P s × Throughout P (after s c) cs
