-- Demand 3 about bytes: what the model keeps, read off the bytes; so the promise holds at every point of every sequence of calls.
-- Assumes nothing.
use mathlib.Core.Path.{◌≡◌, refl, sym, ap, ◌∙◌}
use mathlib.Core.Logic.{◌≢◌}
use mathlib.Core.List.Memᴰ
use mathlib.Core.List.{List, [], ◌∷◌, Memᴰ}
use Rattle.std.specs.Prelude.{Option, None, Some, Ok, option_map}
use Prim.Native.Nat.{ℕ, ◌*◌, ◌≤◌, ◌<◌}
use native.Mathlib.Omega.{arith}
use lib.ListN.{length, take}
use borrow.Author.Tests.{eq-eqb, le-ltb}
use Rattle.model.specs.Bits.{Bytes}
use Rattle.ends.specs.Records.{Slot, entry_of, entry_at}
use Rattle.ends.specs.Ends.{Key, PolicyView, Hit, lookup}
use Rattle.ends.specs.World.{World}
use Rattle.ends.specs.Promise.{Kept}
use Rattle.ends.specs.Trace.{trace}
use Rattle.ends.specs.TraceLink.{ends_of, NoInnerRefusal}
use Rattle.ends.proofs.Promise.{promise}
use Rattle.ends.proofs.TraceLink.{inner-promise}
use Rattle.ternary.specs.Sizes.{key_size, positions}
use Rattle.buffers.specs.BigEndian.{be}
use Rattle.buffers.specs.Parts.{part}
use Rattle.records.specs.Layout.{report_size, most_rules, most_slots}
use Rattle.records.specs.Rules.{rules}
use Rattle.records.specs.Traces.{keys}
use Rattle.end_records.specs.Slots.{slots}
use Rattle.records.specs.SlotBuffers.{slot_count}
use Rattle.end_records.proofs.SlotLaws.{slot-at}
use Rattle.checks.proofs.FitLaws.{slots-accepted}
use Rattle.end_records.specs.Writes.{decode_write}
use Rattle.end_records.specs.Reports.{decode_report}
use Rattle.checks.specs.Keys.{key_refusal}
use Rattle.policy.specs.Refusals.{policy_refusal, AcceptedBytes}
use Rattle.policy.specs.Best.{best_found}
use Rattle.policy.specs.Answers.{best_refusal}
use Rattle.policy.specs.BestAnswers.{best_answer}
use Rattle.policy.proofs.Acceptance.{accepted-bytes}
use Rattle.table.specs.Lookups.{hit_told, lookup_answer}
use Rattle.table.specs.Writes.{write_call_refusal}
use Rattle.table.proofs.ModelLaws.{taken_here, good-lookup}
use Rattle.keeper.specs.Reports.{numbered, report_refused}
use Rattle.keeper.specs.Opens.{open_in, open_refusal, Opened}
use Rattle.keeper.proofs.ReportLaws.{report-meaning}
use Rattle.keeper.proofs.OpenLaws.{list-few}
use Rattle.miss.specs.Decision.{policy_view}
use Rattle.promises.specs.Calls.{State, cleared_ends, Call, after, Sequence, Throughout}
use Rattle.promises.specs.AnyCall.{AnyCall, AnyCallPromise}
use Rattle.promises.specs.RunPromise.{QuietRuns, RunPromise}
use Rattle.promises.specs.Promise.{MissOrBest, entry_of_bytes, KeptBytes, LinkPromise}
use Rattle.promises.proofs.Grown.{kept-among, Grown, grown-start}
use Rattle.promises.proofs.Meaning.{meaning, Formed, keeper-whole, table-whole}
use Rattle.promises.proofs.Steps.{stepped}
use Rattle.promises.proofs.Start.{start-meant, start-formed}
use Rattle.promises.proofs.AnyCall.{any-call}
use Rattle.promises.proofs.OpenNumbers.{empty-list, open-fine, open-listed}

-- ---- what the model keeps, of the bytes

module _ (policy : List ℕ) (fine : policy_refusal policy ≡ None) {count : ℕ} {s : State} (f : Formed count s)
    (kept : Kept positions (policy_view policy) (meaning s)) where
  abbrev k : List Slot
  k = slots key_size s.keeper

  abbrev t : List Slot
  t = slots key_size s.table

  best-here : (key : List ℕ) → length key ≡ key_size → (o : Option Hit) → lookup positions t key ≡ o
      → MissOrBest (Ok (option_map hit_told o)) (best_answer policy key)
  unfolding best_answer best_refusal best_found key_refusal meaning
  best-here key l None e = tt
  best-here key l (Some h) e = rw (fine, eq-eqb (length key) key_size l, kept.rule key h e, kept.action key h e)

  looked-best : (key : List ℕ) (out_len : ℕ) → length key ≡ key_size → report_size ≤ out_len
      → MissOrBest (lookup_answer key s.table out_len) (best_answer policy key)
  unfolding lookup_answer
  looked-best key out_len l fits =
      rw ((good-lookup key s.table out_len).1 (record { long = l; whole = table-whole f; fits = λ i e. fits }))
      (best-here key l (lookup positions t key) refl)

  opens : (out_len : ℕ) → 2 * count ≤ out_len → open_refusal s.keeper out_len ≡ None
  unfolding open_refusal
  opens out_len l =
      let xs : List ℕ = open_in s.keeper in
      rw ((slots-accepted s.keeper).1 (keeper-whole f), le-ltb out_len (2 * length xs) (omega (arith, list-few s.keeper, f.keeper-long)))

  -- an entry by its bytes, and in the list of slots
  keeper-entry : (i : ℕ) → i < count → entry_at k i ≡ entry_of_bytes s.keeper i
  keeper-entry i l = ap entry_of (slot-at key_size s.keeper i (omega (arith, f.keeper-long)))

  table-entry : (i : ℕ) → i < count → entry_at t i ≡ entry_of_bytes s.table i
  table-entry i l = ap entry_of (slot-at key_size s.table i (omega (arith, f.table-long)))

  differs : (i : ℕ) → i < count → entry_of_bytes s.keeper i ≢ entry_of_bytes s.table i
      → (n : ℕ) (out out' : List ℕ) → Opened s.keeper out (Ok n) out' → (j : ℕ) × (j < n) × (be (part 2 (2 * j) out') ≡ i)
  unfolding meaning
  differs i l d n out out' is =
      open-listed s.keeper n out out' is i (omega (arith, f.few-there))
      (kept.differs i (λ e. d (sym (keeper-entry i l) ∙ e ∙ table-entry i l)))

  same : (out out' : List ℕ) → Opened s.keeper out (Ok 0) out'
      → (i : ℕ) → i < count → entry_of_bytes s.keeper i ≡ entry_of_bytes s.table i
  unfolding meaning
  same out out' is i l =
      let none_open : open_in s.keeper ≡ [] = empty-list (open_in s.keeper) (open-fine s.keeper 0 out out' is).1 in
      sym (keeper-entry i l) ∙ kept.same none_open i ∙ table-entry i l

  writes-taken : (m : List ℕ) → Memᴰ m s.writes → (out_len : ℕ) → report_size ≤ out_len → write_call_refusal s.table m out_len ≡ None
  unfolding meaning
  writes-taken m given out_len fits =
      let h = f.writes-formed m given in
      taken_here s.table m out_len (table-whole f) h.long h.kind h.zeros
      (kept.writes_taken (decode_write key_size m) (Memᴰ.map (decode_write key_size) given)) fits

  reports-taken : (m : List ℕ) → Memᴰ m s.reports → report_refused s.keeper m ≡ None
  unfolding meaning
  reports-taken m given =
      let h = f.reports-formed m given in
      report-meaning s.keeper m (keeper-whole f) h.long h.kind h.zeroed
      ∙ ap numbered (kept.reports_taken (decode_report m) (Memᴰ.map decode_report given))

  kept-bytes : KeptBytes policy count s
  kept-bytes =
      record {
        best = looked-best;
        opens = opens;
        differs = differs;
        same = same;
        writes_taken = writes-taken;
        reports_taken = reports-taken;
      }

-- ---- at every point

module _ (policy : List ℕ) (b : Bytes policy) (fine : policy_refusal policy ≡ None) where
  abbrev p : PolicyView
  p = policy_view policy

  accepted : AcceptedBytes policy
  accepted = (accepted-bytes policy).0 fine

  -- what is promised in the model, of a world that has grown from cleared ends
  module _ (count : ℕ) (one : 1 ≤ count) (a : World) (g : Grown p count a) where
    grown-kept : Kept positions p a
    grown-kept =
        kept-among positions p g.among (promise key_size most_rules (rules key_size policy) accepted.accepted count one g.events)

    grown-quiet : (ks : List Key) (key : Key) → NoInnerRefusal positions p (trace positions p (ends_of a) ks) key
    grown-quiet ks key =
        inner-promise key_size most_rules (rules key_size policy) accepted.accepted count one g.events (ends_of a) g.among.ends ks key

  -- what holds of every formed state that has grown so holds at every point
  module _ (P : State → Type 0) (count : ℕ) (here : (s : State) → Formed count s → Grown p count (meaning s) → P s) where
    throughout : (calls : List Call) (s : State) → Formed count s → Grown p count (meaning s) → Sequence policy s calls → Throughout P s calls
    throughout [] s f g made = here s f g
    throughout (c ∷ calls) s f g made =
        let next = stepped policy b accepted f c made.0.0 made.0.1 in
        (here s f g, throughout calls (after s c) next.formed (next.grown g) made.1)

    from_start : 1 ≤ count → count ≤ most_slots → (calls : List Call)
        → Sequence policy (cleared_ends count) calls → Throughout P (cleared_ends count) calls
    from_start one few calls made =
        throughout calls (cleared_ends count) (start-formed count one few) (rw (start-meant count) (grown-start p count)) made

pub link-promise : LinkPromise
link-promise policy b fine count one few calls made =
    from_start policy b fine (KeptBytes policy count) count
    (λ s f g. kept-bytes policy fine f (grown-kept policy b fine count one (meaning s) g)) one few calls made

pub run-promise : RunPromise
unfolding meaning
run-promise policy b fine count one few calls made =
    from_start policy b fine (QuietRuns policy) count
    (λ s f g. record { quiet = λ trace n l. grown-quiet policy b fine count one (meaning s) g (take n (keys key_size trace)) _ })
    one few calls made

pub any-call-promise : AnyCallPromise
any-call-promise policy b fine count one few calls made =
    from_start policy b fine AnyCall count (λ s f g. any-call f) one few calls made
