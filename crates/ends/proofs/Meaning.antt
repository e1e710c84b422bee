-- What the invariant says: all that demand 3 promises. Assumes nothing.
use mathlib.Core.Path.{◌≡◌, refl, sym, ◌∙◌}
use mathlib.Core.Logic.{◌≢◌, ◌⊎◌, inl, inr, ⊎_swap}
use mathlib.Core.Bool.{Bool, true, false}
use mathlib.Core.List.{List, [], Memᴰ}
use Rattle.std.specs.Prelude.{Option, None, Some, option_map}
use Prim.Native.Nat.{ℕ, ◌<◌}
use native.Mathlib.Decide.{ℕ_discrete}
use native.Mathlib.Omega.{arith}
use lib.ListN.{length}
use borrow.Author.Tests.{lt-ltb, ne_eqb, lt-leb, le-ltb}
use Rattle.ends.specs.Records.{Slot, Write, Report, entry_in, slot_at, entry_at}
use Rattle.model.specs.Below.{elem}
use Rattle.ends.specs.Ends.{Key, PolicyView, Hit, first_for, hit_at, lookup, write_refusal, slot_for_entry, miss_of, on_miss, next_entry, miss_told}
use Rattle.ends.specs.Ends.{report_refusal, is_open, open_list}
use Rattle.ends.specs.World.{World}
use Rattle.ends.specs.Promise.{Kept}
use Rattle.model.proofs.Cases.{both, clash, other, none-some}
use Rattle.model.proofs.OrderLaws.{elem-list}
use Rattle.ends.proofs.Slots.{found, live_inside}
use Rattle.ends.proofs.Protocol.{behind, same, keeper-right, table-right}
use Rattle.ends.proofs.Invariant.{Good, GoodWorld, in-keeper, in_table}

module _ {n : ℕ} {p : PolicyView} {width slots : ℕ} {k t : List Slot} {ws : List Write} {rs : List Report} (g : Good n p width slots k t ws rs) where
  open-or-same : (i : ℕ) → (elem i (open_list k) ≡ true) ⊎ (entry_at k i ≡ entry_at t i)
  unfolding open_list
  open-or-same i = go (ℕ_discrete (slot_at k i).sequence (slot_at t i).sequence)
    where
      live : (slot_at k i).sequence ≢ (slot_at t i).sequence → 0 < (slot_at k i).sequence
      live d = omega (arith, behind g.inv i)

      opened : (slot_at k i).sequence ≢ (slot_at t i).sequence → is_open (slot_at k i) ≡ true
      opened d = rw (
        ne_eqb (slot_at k i).sequence 0 (omega (arith, live d)),
        ne_eqb (slot_at k i).settled 1 (λ z. d (sym (g.inv.settled_same i z))),
      )

      go : Dec ((slot_at k i).sequence ≡ (slot_at t i).sequence) → (elem i (open_list k) ≡ true) ⊎ (entry_at k i ≡ entry_at t i)
      go (yes e) = inr (same g.inv i e)
      go (no d) = inl (elem-list (λ j. is_open (slot_at k j)) (length k) i ∙ both (lt-ltb i (length k) (live_inside k i (live d))) (opened d))

  writes-taken : (x : Write) → Memᴰ x ws → write_refusal n t x ≡ None
  unfolding write_refusal
  writes-taken x m =
      let right = g.inv.given-right x.slot (entry_in x) m in
      rw (
        right.clean,
        lt-leb (length t) x.slot (in_table g right.inside),
        ne_eqb x.sequence 0 (omega (arith, g.inv.given-live x.slot (entry_in x) m)),
      )

  reports-taken : (x : Report) → Memᴰ x rs → report_refusal k x ≡ None
  unfolding report_refusal
  reports-taken x m =
      let l = g.reports_live x m in
      rw (
        lt-leb (length k) x.slot (in-keeper g l.0),
        ne_eqb x.sequence 0 (omega arith),
        le-ltb (slot_at k x.slot).sequence x.sequence
            (omega (arith, g.inv.reported-old x.slot x.sequence (x.hits, m), behind g.inv x.slot)),
      )

  told-right : (key : Key) (b f : Option ℕ) (u : Bool) (slot : ℕ) → p.best key ≡ b → first_for n k key ≡ f
      → miss_told p k (miss_of b f u slot (next_entry p k key)) ≡ option_map (λ m. record { rule = m; action = p.action_of m }) b
  told-right key None f u slot e q = refl
  told-right key (Some c) (Some i) u slot e q =
      let s = found n k key i q in
      let r = keeper-right g.inv i s.live in
      let b : p.best key ≡ Some (slot_at k i).rule = r.rule key s.fits in
      let a : (slot_at k i).action ≡ p.action_of (slot_at k i).rule = r.action in
      let d : (slot_at k i).rule ≡ c = cc in
      rw (a, d)
  told-right key (Some c) None true slot e q = refl
  told-right key (Some c) None false slot e q = refl

  -- a hit names the best rule and its action
  hit-right : (key : Key) (h : Hit) → lookup n t key ≡ Some h → (p.best key ≡ Some h.rule) × (h.action ≡ p.action_of h.rule)
  unfolding lookup
  hit-right key h e = go (first_for n t key) refl e
    where
      go : (f : Option ℕ) → first_for n t key ≡ f → hit_at t f ≡ Some h → (p.best key ≡ Some h.rule) × (h.action ≡ p.action_of h.rule)
      go None q e = none-some e
      go (Some i) q e =
          let s = found n t key i q in
          let r = table-right g.inv i s.live in
          let b : p.best key ≡ Some (slot_at t i).rule = r.rule key s.fits in
          let a : (slot_at t i).action ≡ p.action_of (slot_at t i).rule = r.action in
          (cc, cc)

shut : (i : ℕ) → elem i [] ≡ true → ⊥
unfolding elem
shut i m = clash m refl

pub good-kept : (n : ℕ) (p : PolicyView) (width slots : ℕ) (a : World) → GoodWorld n p width slots a → Kept n p a
unfolding on_miss
good-kept n p width slots a g = record {
  rule = λ key h e. (hit-right g key h e).0;
  action = λ key h e. (hit-right g key h e).1;
  told = λ key. told-right g key (p.best key) (first_for n a.keeper key) _ (slot_for_entry a.keeper) refl refl;
  differs = λ i d. other (⊎_swap (open-or-same g i)) d;
  same = λ e i. other (open-or-same g i) (λ m. shut i (rw e at m));
  writes_taken = writes-taken g;
  reports_taken = reports-taken g;
}
