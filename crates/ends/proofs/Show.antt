-- Which record is shown: just the one that decides. Assumes nothing.
use mathlib.Core.Path.{◌≡◌, refl}
use mathlib.Core.List.{List}
use Rattle.std.specs.Prelude.{Option, None, Some}
use Prim.Native.Nat.{ℕ}
use Rattle.model.specs.Policy.{Rule, best}
use Rattle.ends.specs.Records.{Slot}
use Rattle.ends.specs.Ends.{Key, first_for}
use Rattle.ends.specs.Show.{slot_shown, rule_shown, nothing_shown, shown_by, shown, ShownFor}
use Rattle.ends.proofs.Slots.{first-iff, first-none-iff}

by-slot : (f b : Option ℕ) (i : ℕ) → shown_by f b ≡ slot_shown i → f ≡ Some i
by-slot (Some j) b i e = cc
by-slot None (Some r) i e = cc
by-slot None None i e = cc

by-rule : (f b : Option ℕ) (r : ℕ) → shown_by f b ≡ rule_shown r → (f ≡ None) × (b ≡ Some r)
by-rule (Some j) b r e = (cc, cc)
by-rule None (Some q) r e = (refl, cc)
by-rule None None r e = (refl, cc)

by-neither : (f b : Option ℕ) → shown_by f b ≡ nothing_shown → (f ≡ None) × (b ≡ None)
by-neither (Some j) b e = (cc, cc)
by-neither None (Some r) e = (refl, cc)
by-neither None None e = (refl, refl)

pub shown-for : (n : ℕ) (pol : List Rule) (t : List Slot) (key : Key) → ShownFor n pol t key
unfolding shown
shown-for n pol t key =
    let f = first_for n t key in
    let b = best n pol key in
    record {
      slot = λ i. (λ e. (first-iff n t key i).0 (by-slot f b i e), λ h. rw ((first-iff n t key i).1 h));
      rule = λ r. (
        λ e. let h = by-rule f b r e in ((first-none-iff n t key).0 h.0, h.1),
        λ h. rw ((first-none-iff n t key).1 h.0, h.1),
      );
      neither = (
        λ e. let h = by-neither f b e in ((first-none-iff n t key).0 h.0, h.1),
        λ h. rw ((first-none-iff n t key).1 h.0, h.1),
      );
    }
