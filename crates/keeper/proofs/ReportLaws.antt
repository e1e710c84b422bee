-- A report at the keeper: what its tests come to. Assumes nothing.
use mathlib.Core.Path.{◌≡◌, refl}
use mathlib.Core.Bool.{false, not}
use mathlib.Core.List.{List}
use mathlib.Core.Logic.{◌≢◌}
use Rattle.std.specs.Prelude.{Option, None, Some, Result, Ok, Err, ⊤, is_some, option_map}
use Prim.Native.Nat.{ℕ, ◌≤◌, ◌<◌}
use native.Mathlib.Omega.{arith}
use lib.Dec.{leb, ltb, eqb}
use lib.ListN.{length, get_or}
use borrow.Author.Tests.{eqb-true, eq-eqb, ne_eqb, le-leb, lt-leb, lt-ltb, le-ltb}
use Rattle.ends.specs.Records.{Slot, Report, slot_at}
use Rattle.ends.specs.Ends.{report_refusal}
use Rattle.ends.proofs.Refusals.{report-there}
use Rattle.model.proofs.Cases.{by_cases}
use Rattle.checks.specs.declared.refusal.Refusal.TheVariants.{Ragged, BadRecord, WrongKind}
use Rattle.model.specs.Refusals as number
use Rattle.ternary.specs.Sizes.{key_size}
use Rattle.records.specs.Layout.{report_kind, report_zero, report_size, is_report}
use Rattle.checks.specs.Refusals.{need, verdict_of, number_of}
use Rattle.checks.specs.Flaws.{report_flaw}
use Rattle.checks.specs.Messages.{message_refusal}
use Rattle.checks.specs.declared.refusal.Refusal.{Refusal}
use Rattle.end_records.specs.Slots.{slots}
use Rattle.records.specs.SlotBuffers.{slot_count, WholeSlots}
use Rattle.checks.specs.BufferRefusals.{slots_refusal}
use Rattle.end_records.proofs.SlotLaws.{slot-count}
use Rattle.checks.proofs.FitLaws.{slots-accepted}
use Rattle.checks.proofs.CleanLaws.{report-clean}
use Rattle.end_records.specs.Reports.{decode_report}
use Rattle.checks.proofs.RefusalLaws.{none_first, need-none, verdict-refused, verdict-fine}
use Rattle.slots.specs.Settle.{ReportTaken}
use Rattle.keeper.specs.Reports.{numbered, bytes_refusal, report_refused, report_answer, Reported}

-- ---- what an answer says of the tests

pub not-refused : (o : Option ℕ) → numbered o ≡ None → o ≡ None
not-refused None e = refl
not-refused (Some n) e = let z : ◌≡◌ {A = ℕ} 0 1 = cc in absurd (omega arith)

-- a refusal of a report against the slots has the model's number
pub numbered-number : (k : List Slot) (x : Report) → option_map number_of (numbered (report_refusal k x)) ≡ report_refusal k x
unfolding report_refusal
numbered-number k x =
    by_cases (leb (length k) x.slot) (λ a. rw a)
    (λ a. by_cases (eqb x.sequence 0) (λ b. rw (a, b))
    (λ b. by_cases (ltb (slot_at k x.slot).sequence x.sequence) (λ d. rw (a, b, d)) (λ d. rw (a, b, d))))

-- the tests of a report's bytes are those of every message
pub bytes-message : (message : List ℕ) → bytes_refusal message ≡ message_refusal report_size is_report report_flaw message
unfolding bytes_refusal
bytes-message message = refl

-- bytes that are not refused are as many as a report has
pub bytes-long : (message : List ℕ) → bytes_refusal message ≡ None → length message ≡ report_size
unfolding bytes_refusal
bytes-long message e =
    eqb-true _ _ (need-none (eqb (length message) report_size) Ragged
    (need (eqb (get_or message report_kind 0) is_report) WrongKind (need (not (is_some (report_flaw message))) (BadRecord 0) None)) e).0

-- ---- the report against the slots: 9, 10, 11

module _ (keeper : List ℕ) (x : Report) where
  abbrev k : List Slot
  k = slots key_size keeper

  -- what was told of the report against the slots, in the words of the model's refusal
  abbrev Told : Result ⊤ Refusal → Option ℕ → Type 0
  Told r o = r ≡ verdict_of (numbered o) → r ≡ verdict_of (numbered (report_refusal k x))

  pub no_slot : {r : Result ⊤ Refusal} {i : ℕ} → i ≡ x.slot → slot_count key_size keeper ≤ i → Told r (Some number.no_such_slot)
  unfolding report_refusal
  no_slot e l t = rw (le-leb (length k) x.slot (omega (arith, slot-count key_size keeper))) t

  module _ {i : ℕ} (e : i ≡ x.slot) (l : i < slot_count key_size keeper) where
    inside : leb (length k) x.slot ≡ false
    inside = lt-leb (length k) x.slot (omega (arith, slot-count key_size keeper))

    pub no-sequence : {r : Result ⊤ Refusal} → x.sequence ≡ 0 → Told r (Some number.sequence_zero)
    unfolding report_refusal
    no-sequence z t = rw (inside, eq-eqb x.sequence 0 z) t

    module _ {last : ℕ} (is : last ≡ (slot_at k i).sequence) where
      pub too-new : {r : Result ⊤ Refusal} → x.sequence ≢ 0 → last < x.sequence → Told r (Some number.report_ahead)
      unfolding report_refusal
      too-new n m t = rw (inside, ne_eqb x.sequence 0 n, ← e, ← is, lt-ltb last x.sequence m) t

      pub in-time : {r : Result ⊤ Refusal} → x.sequence ≢ 0 → x.sequence ≤ last → Told r None
      unfolding report_refusal
      in-time n m t = rw (inside, ne_eqb x.sequence 0 n, ← e, ← is, le-ltb last x.sequence m) t

-- ---- the whole call

module _ (keeper message : List ℕ) where
  -- the report is taken
  pub record Accepted : Type 0 where
    pub fine : report_refused keeper message ≡ None
    pub long : length message ≡ report_size
    pub inside : (decode_report message).slot < slot_count key_size keeper

  pub accepted-of : {a : Result ⊤ Refusal} → a ≡ report_answer keeper message → a ≡ (Ok tt) → Accepted
  unfolding report_answer report_refused
  accepted-of e t =
      let fine = verdict-fine (report_refused keeper message) e t in
      let later = (none_first (slots_refusal keeper) _ fine).1 in
      let parts = none_first (bytes_refusal message) _ later in
      record {
        fine = fine;
        long = bytes-long message parts.0;
        inside = omega (arith, slot-count key_size keeper, report-there _ _ (not-refused _ parts.1));
      }

  pub reported-refused : {a : Result ⊤ Refusal} {r : Refusal} → a ≡ report_answer keeper message → a ≡ Err r
      → Reported keeper message (Err r) keeper
  unfolding report_answer
  reported-refused e t =
      let refused = verdict-refused (report_refused keeper message) e t in
      record { answer = rw refused; keeper-after = rw refused; meaning = rw refused }

  pub reported-taken : {x : Report} {keeper' : List ℕ} → Accepted → x ≡ decode_report message → ReportTaken keeper x keeper'
      → Reported keeper message (Ok tt) keeper'
  unfolding report_answer
  reported-taken is e h =
      record { answer = rw is.fine; keeper-after = rw (is.fine, ← e) h.keeper-after; meaning = rw (is.fine, ← e) h.meaning }

  -- bytes of the right length and kind, with a zero byte that is zero, are not refused
  bytes-fine : length message ≡ report_size → get_or message report_kind 0 ≡ is_report → get_or message report_zero 0 ≡ 0
      → bytes_refusal message ≡ None
  unfolding bytes_refusal
  bytes-fine l kind zeroed = rw (eq-eqb _ _ l, eq-eqb _ _ kind, (report-clean message).1 (zeroed, tt))

  -- then the report is refused as the model says
  pub report-meaning : WholeSlots keeper → length message ≡ report_size → get_or message report_kind 0 ≡ is_report → get_or message report_zero 0 ≡ 0
      → report_refused keeper message ≡ numbered (report_refusal (slots key_size keeper) (decode_report message))
  unfolding report_refused
  report-meaning whole l kind zeroed = rw ((slots-accepted keeper).1 whole, bytes-fine l kind zeroed)
