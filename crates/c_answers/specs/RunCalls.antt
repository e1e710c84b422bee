-- The run as C sees it: the numbers of the answer, the totals in place, and the buffers after it. Assumes nothing.
use Rattle.std.specs.Prelude.{◌≡◌, List, ℕ}
use Rattle.ends.specs.Records.{Totals}
use Rattle.totals.specs.Sums.{as_totals}
use Rattle.totals.specs.declared.Totals.{Totals as TotalsStruct}
use Rattle.run.specs.Runs.{RunResult, run_of}
use Rattle.c_answers.specs.declared.structs.WgCount.{WgCount}
use Rattle.c_answers.specs.Answers.{count_for_c}

-- all that the call shows
pub record RunResultForC : Type 0 where
  pub answer : WgCount
  pub totals : Totals
  pub table : List ℕ
  pub keeper : List ℕ
  pub out : List ℕ

abbrev pub result_for_c : WgCount → TotalsStruct → List ℕ → List ℕ → List ℕ → RunResultForC
result_for_c r t table keeper out = record { answer = r; totals = as_totals t; table = table; keeper = keeper; out = out }

-- what the run shows, its answer as numbers
abbrev pub run_for_c : RunResult → RunResultForC
run_for_c s = record { answer = count_for_c s.answer; totals = s.totals; table = s.table; keeper = s.keeper; out = s.out }

-- one equation: the call shows what the run shows
abbrev pub RunCall : (policy trace table keeper out : List ℕ) → TotalsStruct → WgCount → TotalsStruct → (table' keeper' out' : List ℕ) → Type 0
RunCall policy trace table keeper out t r t' table' keeper' out' =
    result_for_c r t' table' keeper' out' ≡ run_for_c (run_of policy trace table keeper out (as_totals t))
