-- The invariant of the two ends and of the messages under way, and each move of an end that keeps it. Assumes nothing.
use mathlib.Core.Path.{◌≡◌, refl, sym, ◌∙◌, ap, subst}
use mathlib.Core.Logic.{◌⊎◌, inl, inr}
use mathlib.Core.Bool.{true}
use mathlib.Core.List.Memᴰ
use mathlib.Core.List.{List, ◌∷◌, Memᴰ}
use Rattle.std.specs.Prelude.{Some}
use Prim.Native.Nat.{ℕ, ◌≤◌, ◌<◌}
use native.Mathlib.Omega.{arith}
use lib.ListN.{length, set, replicate, length-set}
use lib.Seq.{get_or-set_same}
use Rattle.ends.specs.Records.{Entry, Slot, Write, Report, entry_of, entry_in, write_for, written, cleared, slot_at, entry_at}
use Rattle.model.specs.Pattern.{matches, canonical}
use Rattle.ends.specs.Ends.{Key, PolicyView, largest}
use Rattle.ends.specs.World.{World}
use Rattle.ends.proofs.Slots.{set_all, set-grows, largest-ge}
use Rattle.ends.proofs.Protocol.{Held, held_more, Inv, New, keeper-given, keeper-moves, table-moves, table-reports}

-- ---- the invariant

-- the entry may stand in slot i: its value is 0 at every wildcard, each key that it matches has its rule as the best, and the action is
-- that rule's
pub record Right (n : ℕ) (p : PolicyView) (slots : ℕ) (i : ℕ) (e : Entry) : Type 0 where
  pub inside : i < slots
  pub clean : canonical n e.value e.mask ≡ true
  pub rule : (key : Key) → matches n e.value e.mask key ≡ true → p.best key ≡ Some e.rule
  pub action : e.action ≡ p.action_of e.rule

abbrev pub stamp : Entry → ℕ
stamp e = e.sequence

-- what the slots start with
abbrev pub base : ℕ → ℕ → ℕ → Entry
base width slots = entry_at (replicate slots (cleared width))

abbrev pub Given : List Write → ℕ → Entry → Type 0
Given ws i e = Memᴰ (write_for i e) ws

abbrev pub Reported : List Report → ℕ → ℕ → Type 0
Reported rs i s = (h : ℕ) × Memᴰ (record { slot = i; sequence = s; hits = h }) rs

abbrev pub Settled : List Slot → ℕ → Type 0
Settled k i = (slot_at k i).settled ≡ 1

pub record Good (n : ℕ) (p : PolicyView) (width slots : ℕ) (k t : List Slot) (ws : List Write) (rs : List Report) : Type 0 where
  pub keeper_size : length k ≡ slots
  pub table_size : length t ≡ slots
  pub reports_live : (x : Report) → Memᴰ x rs → (x.slot < slots) × (0 < x.sequence)
  pub inv : Inv stamp (base width slots) (Right n p slots) (entry_at k) (entry_at t) (Settled k) (Given ws) (Reported rs)

abbrev pub GoodWorld : ℕ → PolicyView → ℕ → ℕ → World → Type 0
GoodWorld n p width slots a = Good n p width slots a.keeper a.table a.writes a.reports

module _ {n : ℕ} {p : PolicyView} {width slots : ℕ} {k t : List Slot} {ws : List Write} {rs : List Report} (g : Good n p width slots k t ws rs) where
  pub in-keeper : {i : ℕ} → i < slots → i < length k
  in-keeper h = omega (arith, g.keeper_size)

  pub in_table : {i : ℕ} → i < slots → i < length t
  in_table h = omega (arith, g.table_size)

  -- the keeper gives a slot's write again
  pub again-good : (i : ℕ) → 0 < (slot_at k i).sequence → Good n p width slots k t (write_for i (entry_at k i) ∷ ws) rs
  again-good i live = record {
    keeper_size = g.keeper_size;
    table_size = g.table_size;
    reports_live = g.reports_live;
    inv = keeper-moves g.inv (record {
      held = λ j. held_more (g.inv.keeper-held j) Memᴰ.tail;
      grows = λ j. omega arith;
      news = λ j e m. inl (was j e (Memᴰ.cases_cons m));
      more = λ j e m. Memᴰ.tail m;
      settled = g.inv.settled_same;
    });
  }
    where
      was : (j : ℕ) (e : Entry) → (write_for j e ≡ write_for i (entry_at k i)) ⊎ Given ws j e → Given ws j e
      was j e (inl q) = Memᴰ.cast q (keeper-given g.inv i live)
      was j e (inr m) = m

  -- the keeper puts a right entry under a fresh sequence into slot i, and gives its write
  pub entry-good : (i : ℕ) (e : Entry) → Right n p slots i e → largest k < e.sequence
      → Good n p width slots (set k i (written e)) t (write_for i e ∷ ws) rs
  entry-good i e right fresh = record {
    keeper_size = length-set k i (written e) ∙ g.keeper_size;
    table_size = g.table_size;
    reports_live = g.reports_live;
    inv = keeper-moves g.inv (record {
      held = set_all (λ j s. Held (base width slots) (Given (write_for i e ∷ ws)) j (entry_of s)) k i (written e) inside
          (inr (Memᴰ.head refl))
          (λ j o. held_more (g.inv.keeper-held j) Memᴰ.tail);
      grows = set-grows k i (written e) inside (omega (arith, largest-ge k i));
      news = λ j d m. new-or-was j d (Memᴰ.cases_cons m);
      more = λ j d m. Memᴰ.tail m;
      settled = set_all (λ j s. s.settled ≡ 1 → (slot_at t j).sequence ≡ s.sequence) k i (written e) inside
          (λ z. absurd (omega arith))
          (λ j o. g.inv.settled_same j);
    });
  }
    where
      inside : i < length k
      inside = in-keeper right.inside

      IsNew : Write → Type 0
      IsNew x = New stamp (base width slots) (Right n p slots) (entry_at k) (entry_at (set k i (written e))) x.slot (entry_in x)

      new : IsNew (write_for i e)
      new = record {
        right = right;
        fresh = omega (arith, largest-ge k i);
        kept = sym (ap entry_of (get_or-set_same k i (written e) (cleared 0) inside));
      }

      new-or-was : (j : ℕ) (d : Entry) → (write_for j d ≡ write_for i e) ⊎ Given ws j d → Given ws j d ⊎ IsNew (write_for j d)
      new-or-was j d (inl q) = inr (subst IsNew (sym q) new)
      new-or-was j d (inr m) = inl m

  -- a keeper's slot keeps its entry, and may be marked where the table has caught up
  pub mark-good : (i : ℕ) (v : Slot) → i < slots → entry_of v ≡ entry_at k i → (slot_at t i).sequence ≡ v.sequence
      → Good n p width slots (set k i v) t ws rs
  mark-good i v h e caught = record {
    keeper_size = length-set k i v ∙ g.keeper_size;
    table_size = g.table_size;
    reports_live = g.reports_live;
    inv = keeper-moves g.inv (record {
      held = set_all (λ j s. Held (base width slots) (Given ws) j (entry_of s)) k i v (in-keeper h)
          (subst (Held (base width slots) (Given ws) i) (sym e) (g.inv.keeper-held i))
          (λ j o. g.inv.keeper-held j);
      grows = set-grows k i v (in-keeper h) (omega (arith, ap stamp e));
      news = λ j d m. inl m;
      more = λ j d m. m;
      settled = set_all (λ j s. s.settled ≡ 1 → (slot_at t j).sequence ≡ s.sequence) k i v (in-keeper h)
          (λ z. caught)
          (λ j o. g.inv.settled_same j);
    });
  }

  -- a slot of the table takes a given entry, not older than its own
  pub table-good : (i : ℕ) (v : Slot) → i < slots → Held (base width slots) (Given ws) i (entry_of v) → (slot_at t i).sequence ≤ v.sequence
      → Good n p width slots k (set t i v) ws rs
  table-good i v h held newer = record {
    keeper_size = g.keeper_size;
    table_size = length-set t i v ∙ g.table_size;
    reports_live = g.reports_live;
    inv = table-moves g.inv
        (set_all (λ j s. Held (base width slots) (Given ws) j (entry_of s)) t i v (in_table h) held (λ j o. g.inv.table-held j))
        (set-grows t i v (in_table h) newer);
  }

  -- the table reports a slot
  pub report-good : (x : Report) → x.slot < slots → 0 < x.sequence → x.sequence ≤ (slot_at t x.slot).sequence
      → Good n p width slots k t ws (x ∷ rs)
  report-good x inside live old = record {
    keeper_size = g.keeper_size;
    table_size = g.table_size;
    reports_live = λ y m. proper y (Memᴰ.cases_cons m);
    inv = table-reports g.inv (λ i s r. new-or-was (record { slot = i; sequence = s; hits = r.0 }) (Memᴰ.cases_cons r.1));
  }
    where
      proper : (y : Report) → (y ≡ x) ⊎ Memᴰ y rs → (y.slot < slots) × (0 < y.sequence)
      proper y (inl q) = subst (λ z. (z.slot < slots) × (0 < z.sequence)) (sym q) (inside, live)
      proper y (inr m) = g.reports_live y m

      new-or-was : (y : Report) → (y ≡ x) ⊎ Memᴰ y rs → Reported rs y.slot y.sequence ⊎ (y.sequence ≤ (slot_at t y.slot).sequence)
      new-or-was y (inl q) = inr (subst (λ z. z.sequence ≤ (slot_at t z.slot).sequence) (sym q) old)
      new-or-was y (inr m) = inl (y.hits, m)
