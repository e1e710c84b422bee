-- Which messages an end can refuse within a run, whatever the two ends hold. Assumes nothing.
use mathlib.Core.Path.{◌≡◌, refl, ap}
use mathlib.Core.Bool.{Bool, true, false}
use mathlib.Core.List.{List}
use mathlib.Core.Logic.{inl, inr}
use Rattle.std.specs.Prelude.{Option, None, Some}
use Prim.Native.Nat.{ℕ, ◌≤◌, ◌<◌}
use native.Mathlib.Omega.{arith}
use lib.Dec.{ltb}
use lib.ListN.{length, length-set}
use lib.Seq.{get_or-set_same}
use borrow.Author.Tests.{lt-leb, ne_eqb, ltb-false}
use Rattle.model.specs.Pattern.{canonical}
use Rattle.ends.specs.Records.{Entry, Slot, Write, Report, entry_in, write_for, written, cleared, slot_at, entry_at}
use Rattle.ends.specs.Ends.{Key, PolicyView, first_for, Miss, no_rule, again, new_entry, used_up}
use Rattle.ends.specs.Ends.{slot_for_entry, miss_of, next_entry, on_miss, miss_keeper}
use Rattle.ends.specs.Ends.{write_refusal, is_newer, after_write, write_report, report_refusal}
use Rattle.model.specs.Refusals.{bad_record, report_ahead}
use Rattle.ends.specs.Promise.{Sound}
use Rattle.ends.specs.TraceLink.{NoneBut, InnerRefusalLaw}
use Rattle.model.proofs.Cases.{by_cases, cond-elim}
use Rattle.ends.proofs.Slots.{found, slot-for-entry-lt}
use Rattle.ends.proofs.Refusals.{write-taken}

-- a report of a slot that is there and not empty
report-but : (k : List Slot) (r : Report) → r.slot < length k → 0 < r.sequence → NoneBut report_ahead (report_refusal k r)
unfolding report_refusal
report-but k r inside live =
    rw (lt-leb (length k) r.slot inside, ne_eqb r.sequence 0 (omega arith))
    (by_cases (ltb (slot_at k r.slot).sequence r.sequence) (λ e. rw e (inr refl)) (λ e. rw e (inl refl)))

-- a miss that gives a write again found its slot
again-found : (b f : Option ℕ) (u : Bool) (slot : ℕ) (next : ℕ → Entry) (i : ℕ) → miss_of b f u slot next ≡ again i → f ≡ Some i
again-found None f u slot next i q = cc
again-found (Some r) (Some j) u slot next i q = cc
again-found (Some r) None true slot next i q = cc
again-found (Some r) None false slot next i q = cc

same_length : (k : List Slot) (m : Miss) → length (miss_keeper k m) ≡ length k
same_length k no_rule = refl
same_length k (again i) = refl
same_length k (new_entry i e) = length-set k i (written e)
same_length k (used_up r) = refl

module _ (n : ℕ) (p : PolicyView) (sound : Sound n p) (k t : List Slot) (equal : length k ≡ length t) (one : 1 ≤ length t) (key : Key) where
  new-taken : (b f : Option ℕ) (u : Bool) → p.best key ≡ b
      → (i : ℕ) (x : Entry) → miss_of b f u (slot_for_entry k) (next_entry p k key) ≡ new_entry i x → write_refusal n t (write_for i x) ≡ None
  unfolding write_refusal
  new-taken None f u e i x q = cc
  new-taken (Some r) (Some j) u e i x q = cc
  new-taken (Some r) None true e i x q = cc
  new-taken (Some r) None false e i x q =
      let slot : i ≡ slot_for_entry k = cc in
      let entry : x ≡ next_entry p k key r = cc in
      rw (
        slot,
        entry,
        sound.clean key r e,
        lt-leb (length t) (slot_for_entry k) (omega (arith, slot-for-entry-lt k (omega arith))),
        ne_eqb (next_entry p k key r).sequence 0 (omega arith),
      )

  resent-but : (i : ℕ) → first_for n k key ≡ Some i → NoneBut bad_record (write_refusal n t (write_for i (entry_at k i)))
  unfolding write_refusal
  resent-but i e =
      let s = found n k key i e in
      by_cases (canonical n (slot_at k i).value (slot_at k i).mask)
      (λ c. rw (c, lt-leb (length t) i (omega (arith, s.inside)), ne_eqb (slot_at k i).sequence 0 (omega (arith, s.live))) (inl refl))
      (λ c. rw c (inr refl))

  answer-but : (m : Miss) (x : Write) → write_refusal n t x ≡ None → NoneBut report_ahead (report_refusal (miss_keeper k m) (write_report t x))
  unfolding write_report after_write
  answer-but m x taken =
      let is = write-taken n t x taken in
      report-but (miss_keeper k m) _ (omega (arith, same_length k m))
      (cond-elim (λ s. 0 < (slot_at s x.slot).sequence) (is_newer t x)
      (λ e. omega (arith, ap (λ s. s.sequence) (get_or-set_same t x.slot (written (entry_in x)) (cleared 0) is.1)))
      (λ e. omega (arith, ltb-false)))

pub inner-refusals : InnerRefusalLaw
unfolding on_miss
inner-refusals n p sound e equal one key =
    let k = e.keeper in
    let t = e.table in
    record {
      new = λ i x q. new-taken n p sound k t equal one key (p.best key) (first_for n k key) _ refl i x q;
      resent = λ i q. resent-but n p sound k t equal one key i (again-found (p.best key) (first_for n k key) _ _ _ i q);
      hit = λ i q. let s = found n t key i q in report-but k _ (omega (arith, s.inside)) s.live;
      answer = λ x q taken. answer-but n p sound k t equal one key (on_miss n p k key) x taken;
    }
