-- The keeper's calls as events: a miss that is not refused is the model's, a report that is not refused is one that arrives. Assumes nothing.
use mathlib.Core.Path.{◌≡◌, refl, sym, ◌∙◌}
use mathlib.Core.Bool.{not}
use mathlib.Core.List.{List, Memᴰ}
use Rattle.std.specs.Prelude.{Option, None, Some, Result, ⊤, Ok}
use Prim.Native.Nat.{ℕ, ◌≤◌, ◌<◌}
use native.Mathlib.Omega.{arith}
use lib.Dec.{ltb}
use lib.ListN.{length}
use borrow.Author.Tests.{ltb-false}
use Rattle.model.specs.Bits.{Bytes}
use Rattle.ends.specs.Records.{Slot, Report, written, slot_at, entry_at, write_for}
use Rattle.ends.specs.Ends.{PolicyView, Miss, no_rule, again, new_entry, used_up, is_empty, miss_write, is_current, confirmed, report_refusal}
use Rattle.checks.specs.declared.refusal.Refusal.TheVariants.{ShortOutput}
use Rattle.ends.specs.World.{miss as miss_event, report_arrives, step}
use Rattle.ends.specs.Trace.{miss_outcome}
use Rattle.model.proofs.Cases.{by_cases, cond-elim, not-true}
use Rattle.ternary.specs.Sizes.{key_size}
use Rattle.buffers.proofs.ByteLaws.{four_below}
use Rattle.records.specs.Layout.{write_size, report_hits}
use Rattle.checks.specs.Refusals.{need}
use Rattle.checks.specs.declared.refusal.Refusal.{Refusal}
use Rattle.checks.proofs.RefusalLaws.{none_first, need-none}
use Rattle.end_records.specs.Slots.{slots, put_slot}
use Rattle.records.specs.SlotBuffers.{slot_count}
use Rattle.end_records.proofs.SlotLaws.{length-put-slot}
use Rattle.end_records.proofs.ByteSlots.{ByteSlot, confirmed-byte, put-bytes}
use Rattle.end_records.specs.Writes.{decode_write}
use Rattle.end_records.specs.Reports.{decode_report}
use Rattle.policy.specs.Refusals.{AcceptedBytes}
use Rattle.slots.specs.Settle.{report_bytes}
use Rattle.keeper.specs.Reports.{report_refused, report_answer, Reported}
use Rattle.keeper.proofs.ReportLaws.{not-refused, accepted-of, report-meaning}
use Rattle.records.specs.Outcomes.{as_struct, gives_write}
use Rattle.miss.specs.Decision.{policy_view}
use Rattle.miss.specs.Decide.{miss_in}
use Rattle.miss.specs.Carry.{short_for_write, out_with}
use Rattle.records.specs.declared.outcome.Outcome.{Outcome as OutcomeStruct}
use Rattle.policy.specs.Lent.{lent_refusal}
use Rattle.miss.specs.Answers.{miss_refused, miss_bytes, Missed}
use Rattle.promises.specs.Calls.{State, miss_gave, after, miss as miss_call, report as report_call}
use Rattle.promises.proofs.MessageBytes.{WriteBytes, ReportBytes}
use Rattle.promises.proofs.MissBytes.{MissFits, miss-fits, write-there}
use Rattle.promises.proofs.Given.{Gives, gives_none, gives-write, sent-meant, place_of}
use Rattle.promises.proofs.Meaning.{meaning, same-world, Formed, Replaced, Stepped, keeper-whole, keeper-room, keeper-slots, stayed}
use Rattle.promises.proofs.Meaning.{keeper-formed}

-- room for a write
long-enough : (room : ℕ) → need (not (ltb room (write_size key_size))) ShortOutput None ≡ None → write_size key_size ≤ room
long-enough room e = ltb-false room (write_size key_size) (not-true (need-none _ _ None e).0)

module _ {count : ℕ} {s : State} (f : Formed count s) where
  abbrev k : List Slot
  k = slots key_size s.keeper

  -- the keeper as it was, or with one slot replaced
  keeper-same : Replaced s.keeper s.keeper
  keeper-same = record { long = refl; bytes = f.keeper-bytes }

  keeper-put : (i : ℕ) (x : Slot) → i < slot_count key_size s.keeper → ByteSlot key_size x
      → Replaced s.keeper (put_slot key_size s.keeper i x)
  keeper-put i x l b =
      record {
        long = length-put-slot key_size s.keeper i x l (keeper-room f i l) b.fits;
        bytes = put-bytes key_size s.keeper i (keeper-room f i l) f.keeper-bytes x b;
      }

  -- ---- a miss

  miss-replaced : (m : Miss) → MissFits (slot_count key_size s.keeper) m → Replaced s.keeper (miss_bytes s.keeper m)
  miss-replaced no_rule h = keeper-same
  miss-replaced (again i) h = keeper-same
  miss-replaced (new_entry i e) h = keeper-put i (written e) h.0 h.1
  miss-replaced (used_up rule) h = keeper-same

  -- outcomes 2, 3 and 5 give a write
  module _ (p : PolicyView) (out : List ℕ) where
    miss-gives : (m : Miss) → MissFits (slot_count key_size s.keeper) m → short_for_write (miss_write k m) (length out) ≡ None
        → Gives (decode_write key_size) WriteBytes (miss_gave (Ok (as_struct (miss_outcome p k m))) (out_with (miss_write k m) out))
        (miss_write k m)
    unfolding gives_write
    miss-gives no_rule h room = gives_none
    miss-gives (again i) h room =
        gives-write (write_for i (entry_at k i)) (write-there s.keeper (keeper-whole f) i (slot_at k i) h ((keeper-slots f).each i h)) out
        (long-enough (length out) room)
    miss-gives (new_entry i e) h room =
        let given =
        gives-write (write_for i e) (write-there s.keeper (keeper-whole f) i (written e) h.0 h.1) out (long-enough (length out) room)
        in
        by_cases (is_empty (slot_at k i)) (λ z. rw z given) (λ z. rw z given)
    miss-gives (used_up rule) h room = gives_none

  module _ (policy : List ℕ) (b : Bytes policy) (accepted : AcceptedBytes policy) (key : List ℕ) where
    -- a miss that is not refused uses the one policy
    missed-with : {out : List ℕ} {r : Result OutcomeStruct Refusal} {keeper' out' : List ℕ} → Missed policy key s.keeper out r keeper' out'
        → miss_refused policy key s.keeper (length out) ≡ None
        → Stepped (policy_view policy) count s (after s (miss_call policy key out r keeper' out'))
    unfolding step meaning miss_refused
    missed-with {out} {r} {keeper'} {out'} is fine =
        let m : Miss = miss_in policy key s.keeper in
        let h = miss-fits policy b accepted k (keeper-slots f) (keeper-whole f).some-there key in
        let room = (none_first (lent_refusal policy key s.keeper) _ fine).1 in
        let answer = rw fine at is.answer in
        let bytes = rw fine at is.keeper-after in
        let told = rw fine at is.out-after in
        let gives : Gives (decode_write key_size) WriteBytes (miss_gave r out') (miss_write k m) =
        rw (answer, told) (miss-gives (policy_view policy) out m h room)
        in
        record {
          event = miss_event key;
          meant = same-world (rw fine at is.meaning) refl (sent-meant s.writes gives) refl;
          formed = keeper-formed f (miss_gave r out') (rw bytes (miss-replaced m h)) gives;
        }

    pub missed : (policy' : List ℕ) {out : List ℕ} {r : Result OutcomeStruct Refusal} {keeper' out' : List ℕ} → Missed policy' key s.keeper out r keeper' out'
        → (o : Option Refusal) → miss_refused policy' key s.keeper (length out) ≡ o
        → (miss_refused policy' key s.keeper (length out) ≡ None → policy' ≡ policy)
        → Stepped (policy_view policy) count s (after s (miss_call policy' key out r keeper' out'))
    missed policy' is (Some x) e uses =
        let refusal = rw e at is.answer in
        let left = rw e at is.keeper-after in
        rw (refusal, left) (stayed f)
    missed policy' is None e uses = let q : policy' ≡ policy = uses e in missed-with (rw q at is) (rw q at e)

  -- ---- a report

  -- once taken, one slot is confirmed or none
  report-replaced : (m : List ℕ) → ReportBytes m → (decode_report m).slot < slot_count key_size s.keeper
      → Replaced s.keeper (report_bytes s.keeper (decode_report m))
  unfolding report_bytes decode_report
  report-replaced m h l =
      let x : Report = decode_report m in
      let low = four_below report_hits m h.bytes (omega (arith, h.long)) in
      cond-elim (Replaced s.keeper) (is_current k x)
      (λ e. keeper-put x.slot (confirmed (slot_at k x.slot) x.hits) l
      (confirmed-byte key_size (slot_at k x.slot) x.hits ((keeper-slots f).each x.slot l) low))
      (λ e. keeper-same)

  module _ (p : PolicyView) {m : List ℕ} {r : Result ⊤ Refusal} {keeper' : List ℕ} (is : Reported s.keeper m r keeper') where
    -- a report that is not refused was given
    reported-as : report_refused s.keeper m ≡ None → Memᴰ m s.reports → Stepped p count s (after s (report_call m r keeper'))
    unfolding step meaning report_answer
    reported-as fine given =
        let h = f.reports-formed m given in
        let at = place_of decode_report s.reports m given in
        let right : report_refusal k (decode_report m) ≡ None =
        not-refused _ (sym (report-meaning s.keeper m (keeper-whole f) h.long h.kind h.zeroed) ∙ fine)
        in
        let taken = accepted-of s.keeper m refl (rw fine) in
        let bytes = rw fine at is.keeper-after in
        record {
          event = report_arrives at.0;
          meant = rw (at.1, right) (same-world (rw fine at is.meaning) refl refl refl);
          formed = keeper-formed f None (rw bytes (report-replaced m h taken.inside)) gives_none;
        }

    pub reported : (o : Option Refusal) → report_refused s.keeper m ≡ o → (report_refused s.keeper m ≡ None → Memᴰ m s.reports)
        → Stepped p count s (after s (report_call m r keeper'))
    reported (Some x) e given = let left = rw e at is.keeper-after in rw left (stayed f)
    reported None e given = reported-as e (given e)
