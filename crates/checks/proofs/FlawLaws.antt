-- A stray bit lies inside its row; the search for a spare byte; of two flaws the one that is told. Assumes nothing.
use mathlib.Core.Path.{◌≡◌, refl, sym, ap, ◌∙◌}
use mathlib.Core.List.{List, [], ◌∷◌}
use Rattle.std.specs.Prelude.{Option, None, Some, option_map}
use Rattle.std.specs.Option.{MatchOption, option_or}
use Rattle.std.specs.List.{AllWithin, HoldsAt}
use Prim.Native.Nat.{ℕ, zero, suc, ◌+◌, ◌≤◌, ◌<◌}
use native.Mathlib.Omega.{arith}
use native.Mathlib.Numerals.{unary_clauses}
use borrow.Author.Tests.{eq-eqb, ne_eqb}
use lib.Dec.{ltb, eqb}
use lib.ListN.{length, get_or, drop}
use lib.Seq.{get_or-take, get_or-drop}
use Rattle.model.specs.Pattern.{first_stray, stray_in}
use Rattle.model.proofs.Cases.{by_cases}
use Rattle.model.proofs.OrderLaws.{foremost-some}
use Rattle.buffers.specs.Parts.{part}
use Rattle.buffers.proofs.PartLaws.{part_length}
use Rattle.checks.specs.Flaws.{first_nonzero, offsets, flaw_of}

pub stray-inside : (w : ℕ) (value mask : List ℕ) (i : ℕ) → first_stray w value mask ≡ Some i → i < w
unfolding first_stray
stray-inside w value mask i e = (foremost-some (stray_in value mask) ltb w i e).0

-- ---- the search of the n bytes from `at` on

next : (c : List ℕ) (at k : ℕ) → get_or c (at + (k + 1)) 0 ≡ 0 → get_or c (at + 1 + k) 0 ≡ 0
next c at k h = let e : at + 1 + k ≡ at + (k + 1) = omega arith in rw e h

back : (c : List ℕ) (at i : ℕ) → get_or c (at + 1 + i) 0 ≡ 0 → get_or c (at + suc i) 0 ≡ 0
back c at i h = let e : at + suc i ≡ at + 1 + i = omega arith in rw e h

all-zero : (c : List ℕ) (n at : ℕ) → ((k : ℕ) → k < n → get_or c (at + k) 0 ≡ 0) → first_nonzero (offsets at n) c ≡ None
all-zero c zero at h = refl
all-zero c (suc n) at h =
    rw (eq-eqb (get_or c at 0) 0 (simp unary_clauses at (h 0 (omega arith))))
    (all-zero c n (at + 1) (λ k l. next c at k (h (k + 1) (omega arith))))

first-there : (c : List ℕ) (n at i : ℕ) → i < n → (get_or c (at + i) 0 ≡ 0 → ⊥) → ((k : ℕ) → k < i → get_or c (at + k) 0 ≡ 0)
    → first_nonzero (offsets at n) c ≡ Some (at + i)
first-there c zero at i l ne h = absurd (omega arith)
first-there c (suc n) at zero l ne h = rw (ne_eqb (get_or c at 0) 0 (simp unary_clauses at ne)) (simp unary_clauses refl)
first-there c (suc n) at (suc i) l ne h =
    rw (eq-eqb (get_or c at 0) 0 (simp unary_clauses at (h 0 (omega arith))))
    (let e : at + 1 + i ≡ at + suc i = omega arith in
    first-there c n (at + 1) i (omega arith) (λ z. ne (back c at i z)) (λ k m. next c at k (h (k + 1) (omega arith))) ∙ ap Some e)

-- what the search of those bytes in order finds
module _ (c : List ℕ) (n at : ℕ) (inside : at + n ≤ length c) where
  read : (k : ℕ) → k < n → get_or (part n at c) k 0 ≡ get_or c (at + k) 0
  read k l = get_or-take n (drop at c) k 0 l ∙ get_or-drop at c k 0

  pub first-spare : (r : Option ℕ)
      → MatchOption r (AllWithin (λ x. x ≡ 0) (part n at c) 0 (length (part n at c)))
      (λ i. (i < length (part n at c)) × HoldsAt (λ x. x ≡ 0 → ⊥) (part n at c) i × AllWithin (λ x. x ≡ 0) (part n at c) 0 i)
      → first_nonzero (offsets at n) c ≡ option_map (λ i. at + i) r
  first-spare None is = all-zero c n at (λ k l. sym (read k l) ∙ is k 0 (omega arith) (omega (arith, part_length n at c inside)))
  first-spare (Some i) is =
      let l : i < n = omega (arith, is.0, part_length n at c inside) in
      first-there c n at i l (λ z. is.1 0 (read i l ∙ z)) (λ k m. sym (read k (omega arith)) ∙ is.2 k 0 (omega arith) m)

-- ---- of two flaws the first is told

pub spare-first : (o later : Option ℕ) → option_or (flaw_of o None) (flaw_of None later) ≡ flaw_of o later
spare-first None later = refl
spare-first (Some at) later = refl

pub lower-first : (at : ℕ) (ats c : List ℕ) (later : Option ℕ)
    → option_or (flaw_of (first_nonzero (at ∷ []) c) None) (flaw_of (first_nonzero ats c) later) ≡ flaw_of (first_nonzero (at ∷ ats) c) later
lower-first at ats c later = by_cases (eqb (get_or c at 0) 0) (λ e. rw e) (λ e. rw e)
