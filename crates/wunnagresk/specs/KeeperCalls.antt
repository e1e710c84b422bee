-- The keeper's calls as C sees them: the numbers of the answer, and the buffers after it. Assumes nothing.
use Rattle.std.specs.Prelude.{◌≡◌, List, ℕ, length, Result}
use Rattle.ends.specs.Ends.{miss_write}
use Rattle.ends.specs.Trace.{miss_outcome}
use Rattle.ternary.specs.Sizes.{key_size}
use Rattle.buffers.specs.Parts.{splice}
use Rattle.end_records.specs.Slots.{slots}
use Rattle.end_records.specs.Reports.{decode_report}
use Rattle.lists.specs.Written.{number_bytes}
use Rattle.checks.specs.declared.refusal.Refusal.{Refusal}
use Rattle.checks.specs.Refusals.{answer_of, unless_refused}
use Rattle.slots.specs.Settle.{report_bytes}
use Rattle.keeper.specs.Reports.{report_refused, report_answer}
use Rattle.keeper.specs.Opens.{open_in, open_refusal}
use Rattle.miss.specs.Decision.{policy_view}
use Rattle.miss.specs.Decide.{miss_in}
use Rattle.miss.specs.Carry.{miss_answer_of, out_with}
use Rattle.records.specs.declared.outcome.Outcome.{Outcome as OutcomeStruct}
use Rattle.miss.specs.Answers.{miss_refused, miss_bytes}
use Rattle.c_answers.specs.Answers.{miss_for_c, done_for_c, count_for_c}
use Rattle.c_answers.specs.declared.structs.WgCount.{WgCount}
use Rattle.c_answers.specs.declared.structs.WgDone.{WgDone}
use Rattle.c_answers.specs.declared.structs.WgOutcome.{WgOutcome}

-- the refusal, or the model's outcome
abbrev pub miss_answer : List ℕ → List ℕ → List ℕ → ℕ → Result OutcomeStruct Refusal
miss_answer policy key keeper out_len =
    miss_answer_of (miss_refused policy key keeper out_len) (miss_outcome (policy_view policy) (slots key_size keeper) (miss_in policy key keeper))

pub record MissCall (policy key keeper out : List ℕ) (r : WgOutcome) (keeper' out' : List ℕ) : Type 0 where
  pub answer : r ≡ miss_for_c (miss_answer policy key keeper (length out))
  pub keeper-after : keeper' ≡ unless_refused (miss_refused policy key keeper (length out)) keeper (miss_bytes keeper (miss_in policy key keeper))
  pub out-after : out' ≡ unless_refused (miss_refused policy key keeper (length out)) out
      (out_with (miss_write (slots key_size keeper) (miss_in policy key keeper)) out)

pub record ReportCall (keeper m : List ℕ) (r : WgDone) (keeper' : List ℕ) : Type 0 where
  pub answer : r ≡ done_for_c (report_answer keeper m)
  pub keeper-after : keeper' ≡ unless_refused (report_refused keeper m) keeper (report_bytes keeper (decode_report m))

pub record OpenCall (keeper out : List ℕ) (r : WgCount) (out' : List ℕ) : Type 0 where
  pub answer : r ≡ count_for_c (answer_of (open_refusal keeper (length out)) (length (open_in keeper)))
  pub out-after : out' ≡ unless_refused (open_refusal keeper (length out)) out (splice 0 (number_bytes (open_in keeper)) out)
