-- The call that isolates as C sees it: the numbers of the answer, and the output after it. Assumes nothing.
use Rattle.std.specs.Prelude.{◌≡◌, List, ◌++◌, ℕ, length}
use Rattle.model.specs.Isolate.{Isolated, isolate}
use Rattle.ternary.specs.Sizes.{key_size, positions}
use Rattle.buffers.specs.Parts.{splice}
use Rattle.records.specs.Rules.{rules}
use Rattle.checks.specs.Refusals.{unless_refused}
use Rattle.c_answers.specs.declared.structs.WgIsolated.{WgIsolated}
use Rattle.c_answers.specs.Isolate.{pattern_refusal, isolate_for_c}

-- the model's isolated rule, over the bytes of the policy
abbrev pub isolated_in : List ℕ → List ℕ → ℕ → Isolated
isolated_in policy key number = isolate positions (rules key_size policy) key number

pub record IsolateCall (policy key : List ℕ) (number : ℕ) (out : List ℕ) (r : WgIsolated) (out' : List ℕ) : Type 0 where
  pub answer : r ≡ isolate_for_c (pattern_refusal policy key number (length out)) (isolated_in policy key number)
  pub out-after : out' ≡ unless_refused (pattern_refusal policy key number (length out)) out
      (splice 0 ((isolated_in policy key number).value ++ (isolated_in policy key number).mask) out)
