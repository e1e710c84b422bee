-- Which writes are refused, and what one that is not comes to. Assumes nothing.
use mathlib.Core.Path.{◌≡◌, refl}
use mathlib.Core.Bool.{not}
use mathlib.Core.List.{List}
use Rattle.std.specs.Prelude.{None, Ok, Err, is_some}
use mathlib.Core.Logic.{◌↔◌}
use Prim.Native.Nat.{ℕ}
use native.Mathlib.Omega.{arith}
use lib.Dec.{leb, ltb, eqb}
use lib.ListN.{length, get_or}
use borrow.Author.Tests.{leb-true, ltb-true, eqb-true, eqb-false, le-leb, lt-ltb, eq-eqb, ne_eqb}
use Rattle.ends.specs.Records.{Slot, Write, report_for}
use Rattle.ends.specs.Ends.{write_report}
use Rattle.model.proofs.Cases.{by_cases, not-true}
use Rattle.ternary.specs.Sizes.{key_size}
use Rattle.buffers.specs.Parts.{splice}
use Rattle.records.specs.Layout.{write_kind, is_write, write_size, report_size}
use Rattle.checks.specs.Flaws.{write_flaw}
use Rattle.checks.specs.declared.refusal.Refusal.{Refusal}
use Rattle.checks.proofs.FlawedLaws.{none-of}
use Rattle.checks.proofs.RefusalLaws.{none_first, need-none, verdict-refused, verdict-fine}
use Rattle.records.specs.SlotBuffers.{slot_count}
use Rattle.checks.specs.BufferRefusals.{slots_refusal}
use Rattle.checks.proofs.FitLaws.{slots-accepted}
use Rattle.end_records.specs.Writes.{decode_write}
use Rattle.end_records.specs.Reports.{encode_report}
use Rattle.slots.specs.Stores.{Stored}
use Rattle.table.specs.Writes.{write_message_refusal, write_call_refusal, GoodWrite, GoodCall, slots_after_write}
use Rattle.table.specs.Writes.{table_after_write, out_after_write, Received}
use Rattle.checks.specs.Refusals.{or_else, need, verdict_of}
use Rattle.checks.specs.Messages.{message_refusal}
use Rattle.checks.specs.declared.refusal.Refusal.TheVariants.{BadRecord, NoSuchSlot, Ragged, SequenceZero, WrongKind}

-- ---- the first tests of a write are those of every message

pub write-begins : (m : List ℕ) (count : ℕ)
    → write_message_refusal m count
    ≡ or_else (message_refusal (write_size key_size) is_write (write_flaw key_size) m)
    (need (ltb (decode_write key_size m).slot count) NoSuchSlot (need (not (eqb (decode_write key_size m).sequence 0)) SequenceZero None))
unfolding write_message_refusal
write-begins m count =
    by_cases (eqb (length m) (write_size key_size))
    (λ a. by_cases (eqb (get_or m write_kind 0) is_write)
    (λ b. by_cases (is_some (write_flaw key_size m)) (λ d. rw (a, b, d)) (λ d. rw (a, b, d))) (λ b. rw (a, b))) (λ a. rw a)

-- and so it has a write's size
pub write-long : (m : List ℕ) → message_refusal (write_size key_size) is_write (write_flaw key_size) m ≡ None → length m ≡ write_size key_size
write-long m e =
    eqb-true _ _ (need-none (eqb (length m) (write_size key_size)) Ragged
    (need (eqb (get_or m 0 0) is_write) WrongKind (need (not (is_some (write_flaw key_size m))) (BadRecord 0) None)) e).0

-- ---- which writes are not refused

module _ (m : List ℕ) (count : ℕ) where
  good-write : (write_message_refusal m count ≡ None) ↔ GoodWrite m count
  unfolding write_message_refusal
  good-write = (
    λ e.
        let long = need-none (eqb (length m) (write_size key_size)) _ _ e in
        let kind = need-none (eqb (get_or m write_kind 0) is_write) _ _ long.1 in
        let clean = need-none (not (is_some (write_flaw key_size m))) _ _ kind.1 in
        let there = need-none (ltb (decode_write key_size m).slot count) _ _ clean.1 in
        let nonzero = need-none (not (eqb (decode_write key_size m).sequence 0)) _ _ there.1 in
        let live = eqb-false (decode_write key_size m).sequence 0 (not-true nonzero.0) in
        record {
          long = eqb-true _ _ long.0;
          kind = eqb-true _ _ kind.0;
          clean = none-of (write_flaw key_size m) (not-true clean.0);
          slot-there = ltb-true _ _ there.0;
          live = omega arith;
        },
    λ h. rw (
      eq-eqb _ _ h.long,
      eq-eqb _ _ h.kind,
      h.clean,
      lt-ltb _ _ h.slot-there,
      ne_eqb (decode_write key_size m).sequence 0 (λ z. absurd (omega (arith, h.live))),
    ),
  )

module _ (table m : List ℕ) (out_len : ℕ) where
  pub good-call : (write_call_refusal table m out_len ≡ None) ↔ GoodCall table m out_len
  unfolding write_call_refusal
  good-call = (
    λ e.
        let whole = none_first (slots_refusal table) _ e in
        let good = none_first (write_message_refusal m (slot_count key_size table)) _ whole.1 in
        record {
          whole = (slots-accepted table).0 whole.0;
          good = (good-write m (slot_count key_size table)).0 good.0;
          fits = leb-true _ _ (need-none (leb report_size out_len) _ None good.1).0;
        },
    λ h. rw ((slots-accepted table).1 h.whole, (good-write m (slot_count key_size table)).1 h.good, le-leb _ _ h.fits),
  )

  pub taken-good : (Ok tt) ≡ verdict_of (write_call_refusal table m out_len) → GoodCall table m out_len
  taken-good e = good-call.0 (verdict-fine (write_call_refusal table m out_len) e refl)

-- ---- the call

module _ (table m out : List ℕ) where
  pub received-refused : (r : Refusal) → Err r ≡ verdict_of (write_call_refusal table m (length out)) → Received table m out (Err r) table out
  unfolding slots_after_write table_after_write out_after_write
  received-refused r e =
      let refused = verdict-refused (write_call_refusal table m (length out)) e refl in
      record { answer = rw refused; table-after = rw refused; meaning = rw refused; out-after = rw refused }

  pub received-taken : (w : Write) (x : Slot) (table' out' : List ℕ) → (Ok tt) ≡ verdict_of (write_call_refusal table m (length out))
      → w ≡ decode_write key_size m → Stored table w x table' → out' ≡ splice 0 (encode_report (report_for w.slot x)) out
      → Received table m out (Ok tt) table' out'
  unfolding slots_after_write table_after_write out_after_write write_report
  received-taken w x table' out' e d s t =
      let good : write_call_refusal table m (length out) ≡ None = verdict-fine (write_call_refusal table m (length out)) e refl in
      record {
        answer = rw good;
        table-after = rw good (rw d at s.table-after);
        meaning = rw good (rw d at s.meaning);
        out-after = rw (good, ← d, ← s.slot) t;
      }
