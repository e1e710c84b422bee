-- The small policy as bytes, and its cases (a) to (k): what the calls answer by their promises, and what is expected. Assumes nothing.
use Rattle.std.specs.Prelude.{List, [], ◌∷◌, ◌++◌, ℕ, length, Result, Ok, Option, None, Some}
use Rattle.model.specs.Small.{row}
use Rattle.buffers.specs.Parts.{splice}
use Rattle.checks.specs.declared.refusal.Refusal.{Refusal}
use Rattle.checks.specs.Refusals.{unless_refused, answer_of}
use Rattle.policy.specs.BestAnswers.{best_answer}
use Rattle.policy.specs.declared.search.BestRule.{BestRule}
use Rattle.lists.specs.Written.{number_bytes}
use Rattle.cover.specs.Answers.{cover_refusal, cover_list}
use Rattle.isolate.specs.Answers.{isolate_answer}
use Rattle.isolate.specs.declared.rounds.Isolated.{Isolated}

-- a record of 32 bytes: the rows show positions 0 to 3, and priority and action are small
unfoldable pub small_rule : ℕ → ℕ → ℕ → ℕ → List ℕ
small_rule value mask priority action = row value ++ (row mask ++ (0 ∷ priority ∷ 0 ∷ action ∷ 0 ∷ 0 ∷ []))

-- R0 11** 30, 7; R1 1*1* 20, 8; R2 **** 10, 9
unfoldable pub small_bytes : List ℕ
small_bytes =
    small_rule 0b1100_0000 0b1100_0000 30 7
    ++ (small_rule 0b1010_0000 0b1010_0000 20 8
    ++ small_rule 0b0000_0000 0b0000_0000 10 9)

-- an answer of a call, with the output that it leaves
pub data Answer : Type 0 where
  best_is : Result (Option BestRule) Refusal → Answer
  cover_is : Result ℕ Refusal → List ℕ → Answer
  isolate_is : Result Isolated Refusal → Answer

-- what is computed, and what is expected
pub record Case : Type 0 where
  pub computed : Answer
  pub expected : Answer

unfoldable pub best_case : List ℕ → ℕ → Option BestRule → Case
best_case policy key best = record { computed = best_is (best_answer policy (row key)); expected = best_is (Ok best) }

-- the best rule, with its action
abbrev pub best_rule : ℕ → ℕ → Option BestRule
best_rule number action = Some (record { number = number; action = action })

-- an output of five bytes, which were 238
unfoldable pub output : List ℕ
output = 238 ∷ 238 ∷ 238 ∷ 238 ∷ 238 ∷ []

unfoldable pub cover_case : ℕ → ℕ → List ℕ → Case
cover_case i n out =
    let refused = cover_refusal small_bytes i (length output) in
    let list = cover_list small_bytes i in
    record {
      computed = cover_is (answer_of refused (length list)) (unless_refused refused output (splice 0 (number_bytes list) output));
      expected = cover_is (Ok n) out;
    }

unfoldable pub isolate_case : ℕ → ℕ → ℕ → ℕ → ℕ → ℕ → Case
isolate_case i key value mask fixed wildcards =
    record {
      computed = isolate_is (isolate_answer small_bytes (row key) i);
      expected = isolate_is (Ok (record { pattern = record { value = row value; mask = row mask }; fixed = fixed; wildcards = wildcards }));
    }

unfoldable pub small_cases : List Case
small_cases =
    -- (a) to (c)
    best_case small_bytes 0b1111_0000 (best_rule 0 7)
    ∷ best_case small_bytes 0b1010_0000 (best_rule 1 8)
    ∷ best_case small_bytes 0b0000_0000 (best_rule 2 9)
    -- (d) to (f)
    ∷ cover_case 2 2 (0 ∷ 0 ∷ 0 ∷ 1 ∷ 238 ∷ [])
    ∷ cover_case 1 1 (0 ∷ 0 ∷ 238 ∷ 238 ∷ 238 ∷ [])
    ∷ cover_case 0 0 (238 ∷ 238 ∷ 238 ∷ 238 ∷ 238 ∷ [])
    -- (g) 0***, (h) *00*, (i) 101*, (j) 11**
    ∷ isolate_case 2 0b0000_0000 0b0000_0000 0b1000_0000 1 103
    ∷ isolate_case 2 0b1000_0000 0b0000_0000 0b0110_0000 2 102
    ∷ isolate_case 1 0b1010_0000 0b1010_0000 0b1110_0000 1 101
    ∷ isolate_case 0 0b1111_0000 0b1100_0000 0b1100_0000 0 102
    -- (k), which holds of every key besides
    ∷ best_case [] 0b0000_0000 None
    ∷ []
