-- Calls of the run, one after another, by what each was lent and what it left. Assumes nothing.
use Rattle.std.specs.Prelude.{◌≡◌, ℕ, ◌*◌, take, Result, Ok, Err}
use mathlib.Core.List.{List, [], ◌∷◌, map, flatten}
use Rattle.ends.specs.Records.{Outcome, Totals}
use Rattle.ends.specs.Totals.{cleared_totals, CountsOf, Balanced}
use Rattle.buffers.specs.Parts.{records_in}
use Rattle.records.specs.Layout.{outcome_size}
use Rattle.records.specs.Outcomes.{decode_outcome}
use Rattle.totals.specs.Sums.{as_totals}
use Rattle.run.specs.Runs.{RunIs}
use Rattle.checks.specs.declared.refusal.Refusal.{Refusal}
use Rattle.run.specs.declared.Ran.{Ran}

-- a call that was made: the buffers that it was lent, what it answered, and the buffers after it
pub record PastRun : Type 0 where
  pub policy : List ℕ
  pub trace : List ℕ
  pub table : List ℕ
  pub keeper : List ℕ
  pub out : List ℕ
  pub ran : Ran
  pub table' : List ℕ
  pub keeper' : List ℕ
  pub out' : List ℕ

-- from totals t the call did what the run promises
abbrev pub Made : Totals → PastRun → Type 0
Made t c = RunIs c.policy c.trace c.table c.keeper c.out t c.ran c.table' c.keeper' c.out'

-- the totals after it
abbrev pub left : PastRun → Totals
left c = as_totals c.ran.totals

-- ---- totals

-- each call starts with the totals that the one before it left; policies and ends may be any
abbrev pub InTurn : Totals → List PastRun → Type 0
InTurn t [] = Unit {0}
InTurn t (c ∷ cs) = Made t c × InTurn (left c) cs

abbrev pub last_of : Totals → List PastRun → Totals
last_of t [] = t
last_of t (c ∷ cs) = last_of (left c) cs

-- the outcomes that the output's bytes tell, where the call was accepted
abbrev pub outcomes_in : Result ℕ Refusal → List ℕ → List Outcome
outcomes_in (Err r) out = []
outcomes_in (Ok n) out = records_in outcome_size decode_outcome n out

abbrev pub told_in : PastRun → List Outcome
told_in c = outcomes_in c.ran.answer c.out'

-- from cleared totals each total is the count of its outcomes in the outputs of all accepted runs, and packets = hits + misses + no rule
pub record Tallied (calls : List PastRun) (t : Totals) : Type 0 where
  pub counts : CountsOf (flatten (map told_in calls)) t
  pub balanced : Balanced t

abbrev pub TotalsPromise : Type 0
TotalsPromise = (calls : List PastRun) → InTurn cleared_totals calls → Tallied calls (last_of cleared_totals calls)

-- ---- a trace cut into parts

-- a part of a trace and the call that ran it: what the call was lent beside policy and ends, what it answered, and what it left
pub record Part : Type 0 where
  pub trace : List ℕ
  pub out : List ℕ
  pub ran : Ran
  pub table' : List ℕ
  pub keeper' : List ℕ
  pub out' : List ℕ

abbrev pub past_run : List ℕ → List ℕ → List ℕ → Part → PastRun
past_run policy table keeper x =
    record {
      policy = policy;
      trace = x.trace;
      table = table;
      keeper = keeper;
      out = x.out;
      ran = x.ran;
      table' = x.table';
      keeper' = x.keeper';
      out' = x.out';
    }

-- with that policy, from those ends and totals, the call did what the run promises, and was accepted
abbrev pub AcceptedPart : List ℕ → List ℕ → List ℕ → Totals → Part → Type 0
AcceptedPart policy table keeper t x = (count : ℕ) × (x.ran.answer ≡ Ok count) × Made t (past_run policy table keeper x)

-- calls in succession: each goes on with the ends and the totals that the one before it left
abbrev pub Successive : List ℕ → List ℕ → List ℕ → Totals → List Part → Type 0
Successive policy table keeper t [] = Unit {0}
Successive policy table keeper t (x ∷ xs) =
    AcceptedPart policy table keeper t x × Successive policy x.table' x.keeper' (as_totals x.ran.totals) xs

abbrev pub last_part : Part → List Part → Part
last_part x [] = x
last_part x (y ∷ ys) = last_part y ys

-- the trace that the parts make
abbrev pub joined : List Part → List ℕ
joined xs = flatten (map (λ (x : Part). x.trace) xs)

-- the outcomes that a call told, byte by byte
abbrev pub packets_in : Result ℕ Refusal → ℕ
packets_in (Err r) = 0
packets_in (Ok n) = n

abbrev pub told_bytes : Part → List ℕ
told_bytes x = take (outcome_size * packets_in x.ran.answer) x.out'

-- the parts' calls leave what the one call of the whole leaves
pub record SameRun (whole first : Part) (more : List Part) : Type 0 where
  pub outcomes : told_bytes whole ≡ flatten (map told_bytes (first ∷ more))
  pub table : whole.table' ≡ (last_part first more).table'
  pub keeper : whole.keeper' ≡ (last_part first more).keeper'
  pub totals : as_totals whole.ran.totals ≡ as_totals (last_part first more).ran.totals

-- a trace that is accepted whole, cut between records into parts that are each accepted in succession
abbrev pub CutPromise : Type 0
CutPromise = (policy table keeper : List ℕ) (t : Totals) (whole first : Part) (more : List Part)
    → AcceptedPart policy table keeper t whole → Successive policy table keeper t (first ∷ more) → whole.trace ≡ joined (first ∷ more)
    → SameRun whole first more
