-- The invariant holds at the start, and each event keeps it. Assumes nothing.
use mathlib.Core.Path.{◌≡◌, refl, ap}
use mathlib.Core.Logic.{inl, inr}
use mathlib.Core.Bool.{Bool, true, false}
use mathlib.Core.List.Memᴰ
use mathlib.Core.List.{List, [], ◌∷◌, Memᴰ}
use Rattle.std.specs.Prelude.{Option, None, Some}
use Prim.Native.Nat.{ℕ, zero, suc, ◌≤◌, ◌<◌}
use native.Mathlib.Omega.{arith}
use lib.ListN.{set, replicate, length-replicate}
use Rattle.std.specs.Prelude.{slice_get}
use lib.Seq.{get_or-set_same}
use borrow.Author.Tests.{eqb-true, ltb-true, ltb-false}
use Rattle.ends.specs.Records.{Write, Report, entry_in, written, report_for, cleared, slot_at}
use Rattle.ends.specs.Ends.{Key, PolicyView, first_for, counted, hit_at, counted_at, lookup, after_lookup}
use Rattle.ends.specs.Ends.{write_refusal, is_newer, after_write, write_report, slot_for_entry, miss_of, on_miss, next_entry}
use Rattle.ends.specs.Ends.{report_refusal, is_current, confirmed, after_report}
use Rattle.ends.specs.World.{World, Event, miss, write_arrives, report_arrives, packet, refused, start, step, run, sent, hit_report}
use Rattle.ends.specs.World.{unless, table_takes, keeper_misses, keeper_takes, deliver_write, deliver_report}
use Rattle.ends.specs.Promise.{Sound}
use Rattle.model.proofs.Cases.{cond-elim}
use Rattle.ends.proofs.Slots.{Found, found, slot-for-entry-lt}
use Rattle.ends.proofs.Protocol.{behind}
use Rattle.ends.proofs.Invariant.{Good, GoodWorld, again-good, in_table, mark-good, entry-good, report-good, table-good}

-- a message that arrives was given
pub arrived : {A : Type 0} (l : List A) (j : ℕ) (x : A) → slice_get l j ≡ Some x → Memᴰ x l
arrived [] j x e = let z : ◌≡◌ {A = ℕ} 0 1 = cc in absurd (omega arith)
arrived (a ∷ l) zero x e = let q : x ≡ a = cc in Memᴰ.head q
arrived (a ∷ l) (suc j) x e = Memᴰ.tail (arrived l j x e)

-- ---- each event keeps it

module _ (n : ℕ) (p : PolicyView) (sound : Sound n p) (width slots : ℕ) (some-slot : 1 ≤ slots) where
  module _ (a : World) (g : GoodWorld n p width slots a) where
    miss-good : (key : Key) (b f : Option ℕ) (u : Bool) (slot : ℕ) → p.best key ≡ b → first_for n a.keeper key ≡ f → slot < slots
        → GoodWorld n p width slots (keeper_misses a (miss_of b f u slot (next_entry p a.keeper key)))
    miss-good key None f u slot e q h = g
    miss-good key (Some c) (Some i) u slot e q h = again-good g i (found n a.keeper key i q).live
    miss-good key (Some c) None true slot e q h = g
    miss-good key (Some c) None false slot e q h =
        entry-good g slot (next_entry p a.keeper key c)
        (record { inside = h; clean = sound.clean key c e; rule = sound.only key c e; action = refl })
        (omega arith)

    pub write-good : (x : Write) → Memᴰ x a.writes → GoodWorld n p width slots (table_takes a x)
    unfolding after_write write_report
    write-good x given =
        cond-elim (λ t. Good n p width slots a.keeper t a.writes (report_for x.slot (slot_at t x.slot) ∷ a.reports))
        (is_newer a.table x)
        (λ e. report-good (table-good g x.slot (written (entry_in x)) inside (inr given) (omega (arith, ltb-true))) _ inside
        (omega (arith, live, ap (λ s. s.sequence) stored)) (omega arith))
        (λ e. report-good g _ inside (omega (arith, live, ltb-false)) (omega arith))
      where
        inside : x.slot < slots
        inside = (g.inv.given-right x.slot (entry_in x) given).inside

        live : 0 < x.sequence
        live = g.inv.given-live x.slot (entry_in x) given

        stored : slot_at (set a.table x.slot (written (entry_in x))) x.slot ≡ written (entry_in x)
        stored = get_or-set_same a.table x.slot (written (entry_in x)) (cleared 0) (in_table g inside)

    keeper-good : (x : Report) → Memᴰ x a.reports → GoodWorld n p width slots (keeper_takes a x)
    unfolding after_report
    keeper-good x given =
        cond-elim (λ k. Good n p width slots k a.table a.writes a.reports) (is_current a.keeper x)
        (λ e. mark-good g x.slot (confirmed (slot_at a.keeper x.slot) x.hits) (g.reports_live x given).0 refl
        (omega (arith, eqb-true, g.inv.reported-old x.slot x.sequence (x.hits, given), behind g.inv x.slot)))
        (λ e. g)

    packet-good : (key : Key) (f : Option ℕ) → first_for n a.table key ≡ f
        → Good n p width slots a.keeper (counted_at a.table f) a.writes (sent (hit_report (hit_at a.table f)) a.reports)
    packet-good key None e = g
    packet-good key (Some i) e =
        report-good (table-good g i (counted (slot_at a.table i)) inside (g.inv.table-held i) (omega arith)) _ inside hit.live
        (omega (arith, ap (λ s. s.sequence) (get_or-set_same a.table i (counted (slot_at a.table i)) (cleared 0) hit.inside)))
      where
        hit : Found n a.table key i
        hit = found n a.table key i e

        inside : i < slots
        inside = omega (arith, hit.inside, g.table_size)

    unless-good : (o : Option ℕ) (b : World) → GoodWorld n p width slots b → GoodWorld n p width slots (unless o a b)
    unless-good (Some refusal) b h = g
    unless-good None b h = h

    -- a message that was asked for, if there is one
    delivered : {A : Type 0} (l : List A) (deliver : Option A → World) (j : ℕ) (o : Option A) → slice_get l j ≡ o
        → GoodWorld n p width slots (deliver None) → ((x : A) → Memᴰ x l → GoodWorld n p width slots (deliver (Some x)))
        → GoodWorld n p width slots (deliver o)
    delivered l deliver j None e absent arrives = absent
    delivered l deliver j (Some x) e absent arrives = arrives x (arrived l j x e)

    pub step-good : (e : Event) → GoodWorld n p width slots (step n p a e)
    unfolding step on_miss after_lookup lookup
    step-good (miss key) =
        miss-good key (p.best key) (first_for n a.keeper key) _ (slot_for_entry a.keeper) refl refl
        (let r = slot-for-entry-lt a.keeper (omega (arith, g.keeper_size)) in omega (arith, g.keeper_size))
    step-good (write_arrives j) =
        delivered a.writes (deliver_write n a) j (slice_get a.writes j) refl g
        (λ x given. unless-good (write_refusal n a.table x) (table_takes a x) (write-good x given))
    step-good (report_arrives j) =
        delivered a.reports (deliver_report a) j (slice_get a.reports j) refl g
        (λ x given. unless-good (report_refusal a.keeper x) (keeper_takes a x) (keeper-good x given))
    step-good (packet key) = packet-good key (first_for n a.table key) refl
    step-good refused = g

  run-good : (es : List Event) (a : World) → GoodWorld n p width slots a → GoodWorld n p width slots (run n p a es)
  unfolding run
  run-good [] a g = g
  run-good (e ∷ es) a g = run-good es (step n p a e) (step-good a g e)

-- ---- the start

start-empty : (width slots i : ℕ)
    → ((slot_at (replicate slots (cleared width)) i).sequence ≡ 0) × ((slot_at (replicate slots (cleared width)) i).settled ≡ 0)
start-empty width zero i = (refl, refl)
start-empty width (suc slots) zero = (refl, refl)
start-empty width (suc slots) (suc i) = start-empty width slots i

start-good : (n : ℕ) (p : PolicyView) (width slots : ℕ) → GoodWorld n p width slots (start width slots)
unfolding start
start-good n p width slots = record {
  keeper_size = length-replicate slots (cleared width);
  table_size = length-replicate slots (cleared width);
  reports_live = λ x m. absurd (Memᴰ.not-nil m);
  inv = record {
    base-stamp = λ i. (start-empty width slots i).0;
    keeper-held = λ i. inl refl;
    table-held = λ i. inl refl;
    given-right = λ i e m. absurd (Memᴰ.not-nil m);
    given-live = λ i e m. absurd (Memᴰ.not-nil m);
    given-old = λ i e m. absurd (Memᴰ.not-nil m);
    given-one = λ i d e m. absurd (Memᴰ.not-nil m);
    reported-old = λ i s r. absurd (Memᴰ.not-nil r.1);
    settled_same = λ i z. refl;
  };
}

pub always-good : (n : ℕ) (p : PolicyView) → Sound n p → (width slots : ℕ) → 1 ≤ slots → (events : List Event)
    → GoodWorld n p width slots (run n p (start width slots) events)
always-good n p sound width slots one events = run-good n p sound width slots one events (start width slots) (start-good n p width slots)
