-- One input admits one answer: for each call, two results that meet its contract for the same input are equal. Assumes nothing.
use Rattle.std.specs.Prelude.{◌≡◌, List, ℕ, Result, ⊤, Option}
use Rattle.policy.specs.Answers.{check_answer}
use Rattle.policy.specs.RecordAnswers.{record_answer, shown_record}
use Rattle.policy.specs.BestAnswers.{best_answer}
use Rattle.policy.specs.declared.search.BestRule.{BestRule}
use Rattle.isolate.specs.Answers.{isolate_answer}
use Rattle.isolate.specs.declared.rounds.Isolated.{Isolated}
use Rattle.show.specs.Answers.{show_answer, shown_part}
use Rattle.show.specs.declared.Source.{Source}
use Rattle.cover.specs.Answers.{Covered}
use Rattle.table.specs.Lookups.{LookedUp}
use Rattle.table.specs.declared.Hit.{Hit}
use Rattle.table.specs.Writes.{Received}
use Rattle.keeper.specs.Reports.{Reported}
use Rattle.keeper.specs.Opens.{Opened}
use Rattle.records.specs.declared.outcome.Outcome.{Outcome as OutcomeStruct}
use Rattle.miss.specs.Answers.{Missed}
use Rattle.ends.specs.Records.{Totals}
use Rattle.run.specs.Runs.{RunIs, result_of as gathered}
use Rattle.run.specs.declared.Ran.{Ran}
use Rattle.totals.specs.declared.Totals.{Totals as TotalsStruct}
use Rattle.c_answers.specs.declared.structs.WgBestAnswer.{WgBestAnswer}
use Rattle.c_answers.specs.declared.structs.WgCount.{WgCount}
use Rattle.c_answers.specs.declared.structs.WgDone.{WgDone}
use Rattle.c_answers.specs.declared.structs.WgFound.{WgFound}
use Rattle.c_answers.specs.declared.structs.WgIsolated.{WgIsolated}
use Rattle.c_answers.specs.declared.structs.WgOutcome.{WgOutcome}
use Rattle.c_answers.specs.declared.structs.WgPart.{WgPart}
use Rattle.c_answers.specs.declared.structs.WgShown.{WgShown}
use Rattle.c_answers.specs.Answers.{count_for_c, best_for_c}
use Rattle.c_answers.specs.Parts.{record_for_c, show_for_c}
use Rattle.wunnagresk.specs.TableCalls.{LookupCall, WriteCall}
use Rattle.wunnagresk.specs.KeeperCalls.{MissCall, ReportCall, OpenCall}
use Rattle.wunnagresk.specs.PolicyCalls.{CoverCall}
use Rattle.c_answers.specs.IsolateCalls.{IsolateCall}
use Rattle.checks.specs.declared.refusal.Refusal.{Refusal}
use Rattle.c_answers.specs.RunCalls.{RunCall, result_for_c}

-- a buffer's bytes
abbrev pub Buffer : Type 0
Buffer = List ℕ

-- a contract whose results are one equation: what it says of the result x, where f is its definition and a the input
abbrev pub Is : {A B : Type 0} → (A → B) → A → B → Type 0
Is f a x = x ≡ f a

-- two results that meet the contract for the same input are equal
abbrev pub Single : {A B : Type 0} → (A → B → Type 0) → Type 0
Single {A} {B} C = (a : A) (x y : B) → C a x → C a y → x ≡ y

-- a contract that is one equation admits one answer
abbrev pub EquationLaw : Type 1
EquationLaw = (A B : Type 0) (f : A → B) → Single (Is f)

-- the calls: input first, then the answer, with the buffers after the call where it leaves any
pub record EachSingle : Type 0 where
  pub checks : Single (λ (policy : Buffer) (x : Result ℕ Refusal). x ≡ check_answer policy)
  pub bests : Single (λ (a : Buffer × Buffer) (x : Result (Option BestRule) Refusal). x ≡ best_answer a.0 a.1)
  -- of a part that is lent: its bytes
  pub records : Single (λ (a : Buffer × ℕ) (x : Buffer). x ≡ shown_record a.0 a.1)
  pub record-answers : Single (λ (a : Buffer × ℕ) (x : Result ⊤ Refusal). x ≡ record_answer a.0 a.1)
  pub isolates : Single (λ (a : Buffer × Buffer × ℕ) (x : Result Isolated Refusal). x ≡ isolate_answer a.0 a.1 a.2)
  pub shows : Single (λ (a : Buffer × Buffer × Buffer) (x : Buffer). x ≡ shown_part a.0 a.1 a.2)
  pub show-answers : Single (λ (a : Buffer × Buffer × Buffer) (x : Result (Option Source) Refusal). x ≡ show_answer a.0 a.1 a.2)
  pub covers : Single (λ (a : Buffer × ℕ × Buffer) (x : Result ℕ Refusal × Buffer). Covered a.0 a.1 a.2 x.0 x.1)
  pub lookups : Single (λ (a : Buffer × Buffer × Buffer) (x : Result (Option Hit) Refusal × Buffer × Buffer). LookedUp a.0 a.1 a.2 x.0 x.1 x.2)
  pub writes : Single (λ (a : Buffer × Buffer × Buffer) (x : Result ⊤ Refusal × Buffer × Buffer). Received a.0 a.1 a.2 x.0 x.1 x.2)
  pub misses : Single (λ (a : Buffer × Buffer × Buffer × Buffer) (x : Result OutcomeStruct Refusal × Buffer × Buffer).
      Missed a.0 a.1 a.2 a.3 x.0 x.1 x.2)
  pub reports : Single (λ (a : Buffer × Buffer) (x : Result ⊤ Refusal × Buffer). Reported a.0 a.1 x.0 x.1)
  pub opens : Single (λ (a : Buffer × Buffer) (x : Result ℕ Refusal × Buffer). Opened a.0 a.1 x.0 x.1)
  -- the answer, the totals and every byte of the three buffers, which `gathered` puts together
  pub runs : (policy trace table keeper out : Buffer) (t : Totals) (r r' : Ran) (ta ke ou ta' ke' ou' : Buffer)
      → RunIs policy trace table keeper out t r ta ke ou → RunIs policy trace table keeper out t r' ta' ke' ou'
      → gathered r ta ke ou ≡ gathered r' ta' ke' ou'

-- the exports
pub record EachExportSingle : Type 0 where
  pub checks : Single (λ (policy : Buffer) (x : WgCount). x ≡ count_for_c (check_answer policy))
  pub bests : Single (λ (a : Buffer × Buffer) (x : WgBestAnswer). x ≡ best_for_c (best_answer a.0 a.1))
  pub records : Single (λ (a : Buffer × ℕ) (x : WgPart). x ≡ record_for_c (record_answer a.0 a.1) a.1)
  pub shows : Single (λ (a : Buffer × Buffer × Buffer) (x : WgShown). x ≡ show_for_c (show_answer a.0 a.1 a.2))
  pub covers : Single (λ (a : Buffer × ℕ × Buffer) (x : WgCount × Buffer). CoverCall a.0 a.1 a.2 x.0 x.1)
  pub isolates : Single (λ (a : Buffer × Buffer × ℕ × Buffer) (x : WgIsolated × Buffer). IsolateCall a.0 a.1 a.2 a.3 x.0 x.1)
  pub lookups : Single (λ (a : Buffer × Buffer × Buffer) (x : WgFound × Buffer × Buffer). LookupCall a.0 a.1 a.2 x.0 x.1 x.2)
  pub writes : Single (λ (a : Buffer × Buffer × Buffer) (x : WgDone × Buffer × Buffer). WriteCall a.0 a.1 a.2 x.0 x.1 x.2)
  pub misses : Single (λ (a : Buffer × Buffer × Buffer × Buffer) (x : WgOutcome × Buffer × Buffer).
      MissCall a.0 a.1 a.2 a.3 x.0 x.1 x.2)
  pub reports : Single (λ (a : Buffer × Buffer) (x : WgDone × Buffer). ReportCall a.0 a.1 x.0 x.1)
  pub opens : Single (λ (a : Buffer × Buffer) (x : WgCount × Buffer). OpenCall a.0 a.1 x.0 x.1)
  pub runs : (policy trace table keeper out : Buffer) (t : TotalsStruct) (r r' : WgCount) (u u' : TotalsStruct) (ta ke ou ta' ke' ou' : Buffer)
      → RunCall policy trace table keeper out t r u ta ke ou → RunCall policy trace table keeper out t r' u' ta' ke' ou'
      → result_for_c r u ta ke ou ≡ result_for_c r' u' ta' ke' ou'
