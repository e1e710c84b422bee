-- What the answer about the files says, where they are taken and where they are refused. Assumes nothing.
use mathlib.Core.Path.{◌≡◌, refl, sym, ap}
use mathlib.Core.Bool.{true}
use mathlib.Core.List.{List}
use Rattle.std.specs.Prelude.{None, Some, Ok, Err, Option}
use Prim.Native.Nat.{ℕ, ◌≤◌}
use Rattle.std.proofs.Common.{Option, None, Some}
use Rattle.std.specs.Option.{is_some, unwrap_or}
use borrow.Author.Tests.{leb-true}
use lib.Dec.{leb}
use lib.ListN.{length}
use Rattle.checks.specs.declared.refusal.Refusal.TheVariants.{BadSlots, TooMany}
use Rattle.records.specs.Layout.{most_slots}
use Rattle.checks.specs.Refusals.{need}
use Rattle.checks.specs.declared.refusal.Refusal.{Refusal}
use Rattle.checks.proofs.RefusalLaws.{need-none, answer-refused, answer-given}
use Rattle.text.specs.SlotsText.{slots_in}
use Rattle.replay_text.specs.Files.{most_policy_bytes, most_trace_bytes, slots_of, file_refusal, file_answer}
use Rattle.text.proofs.SlotsTextLaws.{slots-some, slots-few}

-- three files that are taken
pub record Taken (slots policy trace : List ℕ) (n : ℕ) : Type 0 where
  pub fine : file_refusal slots policy trace ≡ None
  pub count : slots_in slots ≡ Some n
  pub some-there : 1 ≤ n
  pub few-there : n ≤ most_slots
  pub trace-short : length trace ≤ most_trace_bytes

-- slots.txt gives a number
given : (o : Option ℕ) {n : ℕ} → is_some o ≡ true → n ≡ unwrap_or o 0 → o ≡ Some n
given (Some m) h e = ap Some (sym e)
given None h e = cc

module _ (slots policy trace : List ℕ) where
  pub files-refused : {r : Refusal} → file_answer slots policy trace ≡ Err r → file_refusal slots policy trace ≡ Some r
  unfolding file_answer
  files-refused e = answer-refused (file_refusal slots policy trace) (slots_of slots) refl e

  pub files-taken : {n : ℕ} → file_answer slots policy trace ≡ Ok n → Taken slots policy trace n
  unfolding file_answer file_refusal
  files-taken {n} e =
      let of = answer-given (file_refusal slots policy trace) (slots_of slots) refl e in
      let trace-test = need (leb (length trace) most_trace_bytes) TooMany None in
      let policy-test = need (leb (length policy) most_policy_bytes) TooMany trace-test in
      let first = need-none (is_some (slots_in slots)) BadSlots policy-test of.0 in
      let second = need-none (leb (length policy) most_policy_bytes) TooMany trace-test first.1 in
      let third = need-none (leb (length trace) most_trace_bytes) TooMany None second.1 in
      let count = given (slots_in slots) first.0 of.1 in
      record {
        fine = of.0;
        count = count;
        some-there = slots-some slots n count;
        few-there = slots-few slots n count;
        trace-short = leb-true (length trace) most_trace_bytes third.0;
      }
