-- What a run came to, written to an output. Assumes nothing.
use mathlib.Core.Path.{◌≡◌, sym, ◌∙◌}
use mathlib.Core.List.{List, ◌++◌}
use Rattle.std.specs.Prelude.{Some, Result, Ok, Err}
use Prim.Native.Nat.{ℕ}
use Rattle.ends.specs.Records.{Totals}
use Rattle.checks.specs.declared.refusal.Refusal.{Refusal}
use Rattle.checks.specs.Refusals.{number_of, place_of}
use Rattle.lines.specs.Printed.{totals_line, refusal_line}
use Rattle.lines.specs.Listing.{lines_in, TextPut}
use Rattle.lines.proofs.PutLaws.{same-put}
use Rattle.replay_text.specs.Files.{file_refusal, file_answer}
use Rattle.replay_text.proofs.FileLaws.{Taken, files-refused, files-taken}
use Rattle.replay_text.specs.Text.{ran_text, outcomes_from, call_refusal, text_for, text_of_replay}

module _ {a : Result ℕ Refusal} (t : Totals) (records : List ℕ) {out : List ℕ} {m : ℕ} {out' : List ℕ} where
  pub refused-put : {r : Refusal} → a ≡ Err r → TextPut (refusal_line (number_of r) (place_of r)) out m out'
      → TextPut (ran_text a t records) out m out'
  refused-put e p = rw e p

  pub packets-put : {k : ℕ} → a ≡ Ok k → TextPut (lines_in k records ++ totals_line t) out m out' → TextPut (ran_text a t records) out m out'
  packets-put e p = rw e p

module _ (slots policy trace : List ℕ) where
  refused-text : {r : Refusal} → file_refusal slots policy trace ≡ Some r
      → refusal_line (number_of r) (place_of r) ≡ text_of_replay slots policy trace
  unfolding text_of_replay
  refused-text e = rw e

  run-text : {n : ℕ} → Taken slots policy trace n
      → text_for (call_refusal policy trace) (outcomes_from n policy trace) ≡ text_of_replay slots policy trace
  unfolding text_of_replay
  run-text t = rw (t.fine, t.count)

  module _ {a : Result ℕ Refusal} (is : a ≡ file_answer slots policy trace) {out : List ℕ} {m : ℕ} {out' : List ℕ} where
    pub text-refused : {r : Refusal} → a ≡ Err r → TextPut (refusal_line (number_of r) (place_of r)) out m out'
        → TextPut (text_of_replay slots policy trace) out m out'
    text-refused e p = same-put (refused-text (files-refused slots policy trace (sym is ∙ e))) p

    pub text-run : {n : ℕ} → a ≡ Ok n → TextPut (text_for (call_refusal policy trace) (outcomes_from n policy trace)) out m out'
        → TextPut (text_of_replay slots policy trace) out m out'
    text-run e p = same-put (run-text (files-taken slots policy trace (sym is ∙ e))) p
