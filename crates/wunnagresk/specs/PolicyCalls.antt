-- The cover list as C sees it: the numbers of the answer, and the output after it. Assumes nothing.
use Rattle.std.specs.Prelude.{◌≡◌, List, ℕ, length}
use Rattle.buffers.specs.Parts.{splice}
use Rattle.checks.specs.Refusals.{unless_refused, answer_of}
use Rattle.lists.specs.Written.{number_bytes}
use Rattle.cover.specs.Answers.{cover_refusal, cover_list}
use Rattle.c_answers.specs.Answers.{count_for_c}
use Rattle.c_answers.specs.declared.structs.WgCount.{WgCount}

pub record CoverCall (policy : List ℕ) (number : ℕ) (out : List ℕ) (r : WgCount) (out' : List ℕ) : Type 0 where
  pub answer : r ≡ count_for_c (answer_of (cover_refusal policy number (length out)) (length (cover_list policy number)))
  pub out-after : out' ≡ unless_refused (cover_refusal policy number (length out)) out (splice 0 (number_bytes (cover_list policy number)) out)
