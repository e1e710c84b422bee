-- A scan of positions that keeps the first with the most, and a loop of rounds. Assumes nothing.
use mathlib.Core.Path.{◌≡◌, refl, sym, ap, ◌∙◌}
use mathlib.Core.Bool.{Bool, true, not, cond}
use mathlib.Core.List.{List, [], ◌∷◌}
use Rattle.std.specs.Prelude.{Some}
use Prim.Native.Nat.{ℕ, zero, suc, ◌+◌, ◌≤◌, ◌<◌}
use native.Mathlib.Nat.{not-suc-le-zero}
use native.Mathlib.Omega.{arith}
use lib.ListN.{length, get_or}
use Rattle.std.specs.List.{All}
use Rattle.std.proofs.lemmas.List.{get_or_default}
use borrow.Author.Tests.{lt-ltb, le-ltb}
use lib.Dec.{ltb}
use native.Mathlib.Numerals.{add-one}
use Rattle.model.specs.Below.{most_below, keep, elem}
use Rattle.model.specs.Bits.{bit_at, put_bit}
use Rattle.model.specs.Pattern.{wildcards}
use Rattle.model.specs.Policy.{Rule, best, dependents}
use Rattle.model.specs.Isolate.{separates, chosen, isolate}
use Rattle.model.proofs.Cases.{by_cases, order-cases, and_left}
use Rattle.model.proofs.BelowLaws.{most-is, elem-keep, elem_at}
use Rattle.model.proofs.PolicyLaws.{dependent-iff}
use Rattle.model.proofs.RoundLaws.{fewer}
use Rattle.model.proofs.IsolateLaws.{Rounds, rounds-start, rounds-next, resume, resume-start, resume-round, resume-stop}
use Rattle.isolate.specs.Leads.{Leads}
use Rattle.isolate.specs.Structs.{PatternOf}

-- ---- a scan of positions

pub leads-none : (f : ℕ → ℕ) → Leads f 0 0 0
unfolding most_below
leads-none f = record { first = refl; reached = λ l. absurd (not-suc-le-zero l); none = λ e. refl }

one-more : (f : ℕ → ℕ) (p best : ℕ) → best ≡ most_below f p → most_below f (p + 1) ≡ cond (ltb (f best) (f p)) p best
unfolding most_below
one-more f p best e = rw (add-one, ← e)

at-first : (f : ℕ → ℕ) (p best : ℕ) → best ≡ most_below f p → 0 ≡ p → best ≡ p
unfolding most_below
at-first f p best e o = rw (← o) at e ∙ o

-- x is f at p
module _ (f : ℕ → ℕ) (p best most x : ℕ) (is : Leads f p best most) (at : x ≡ f p) where
  pub leads-taken : most < x → Leads f (p + 1) p x
  leads-taken h = record { first = first; reached = λ l. at; none = λ e. absurd (omega arith) }
    where
      first : p ≡ most_below f (p + 1)
      first =
          rw (one-more f p best is.first)
          (order-cases 0 p
          (λ l. rw (lt-ltb (f best) (f p) (omega (arith, is.reached l))))
          (λ o. let e = at-first f p best is.first o in by_cases (ltb (f best) (f p)) (λ t. rw t) (λ t. rw t (sym e)))
          (λ l. absurd (omega arith)))

  pub leads-kept : x ≤ most → Leads f (p + 1) best most
  leads-kept h = record { first = first; reached = λ l. reached; none = λ e. absurd (omega arith) }
    where
      first : best ≡ most_below f (p + 1)
      first =
          rw (one-more f p best is.first)
          (order-cases 0 p
          (λ l. rw (le-ltb (f best) (f p) (omega (arith, is.reached l))))
          (λ o. let e = at-first f p best is.first o in by_cases (ltb (f best) (f p)) (λ t. rw t e) (λ t. rw t))
          (λ l. absurd (omega arith)))

      reached : most ≡ f best
      reached =
          order-cases 0 p
          is.reached
          (λ o. let e = ap f (at-first f p best is.first o) in omega (arith, is.none (sym o), e))
          (λ l. absurd (omega arith))

pub chosen-inside : (sep : ℕ → ℕ → Bool) (n : ℕ) (xs : List ℕ) → 0 < n → chosen sep n xs < n
unfolding chosen
chosen-inside sep n xs h = (most-is (λ q. length (keep (sep q) xs)) n h).within

none-left : (xs : List ℕ) → length xs ≡ 0 → xs ≡ []
none-left [] e = refl
none-left (x ∷ xs) e = absurd (omega arith)

-- ---- the rounds: v and m are the pattern so far, with c bits fixed, and those of xs stand; as many rounds are left as make up `top`
pub record Going (n : ℕ) (pol : List Rule) (key : List ℕ) (i top : ℕ) (v m : List ℕ) (c : ℕ) (xs : List ℕ) : Type 0 where
  pub k : ℕ
  pub total : c + k ≡ top
  pub rounds : Rounds (separates pol key i) n k xs
  pub same : resume (separates pol key i) n key v m c k xs ≡ isolate n pol key i
  pub below : (d : ℕ) → elem d xs ≡ true → d < length pol

module _ (n : ℕ) (pol : List Rule) (key : List ℕ) (i : ℕ) where
  abbrev sep : ℕ → ℕ → Bool
  sep = separates pol key i

  -- those of xs that p leaves
  abbrev left : ℕ → List ℕ → List ℕ
  left p xs = keep (λ e. not (sep p e)) xs

  -- at first
  pub going_start : (v m : List ℕ) {xs : List ℕ} → xs ≡ dependents n pol i → best n pol key ≡ Some i
      → PatternOf pol i v m → Going n pol key i (length xs) v m 0 xs
  going_start v m is b rows =
      rw (is, rows.value-is, rows.mask_is)
      (record {
        k = length (dependents n pol i);
        total = omega arith;
        rounds = rounds-start n pol key i b;
        same = sym (resume-start n pol key i);
        below = λ d h. ((dependent-iff pol n i d).0 h).0;
      })

  module _ (top : ℕ) (v m : List ℕ) (c : ℕ) where
    -- a round, where one stands
    round : (k : ℕ) (xs : List ℕ) → c + k ≡ top → Rounds sep n k xs → resume sep n key v m c k xs ≡ isolate n pol key i
        → ((d : ℕ) → elem d xs ≡ true → d < length pol) → 0 < length xs
        → Going n pol key i top (put_bit v (chosen sep n xs) (bit_at key (chosen sep n xs))) (put_bit m (chosen sep n xs) 1) (c + 1)
        (left (chosen sep n xs) xs)
    round k [] t r s b h = absurd (not-suc-le-zero h)
    round zero (d ∷ ds) t r s b h = absurd (omega (arith, r.enough))
    round (suc k) (d ∷ ds) t r s b h = record {
      k = k;
      total = omega arith;
      rounds = rounds-next r;
      same = sym (resume-round sep n key v m c k d ds) ∙ s;
      below = λ e l. b e (and_left (elem e (d ∷ ds)) _ (sym (elem-keep (λ x. not (sep (chosen sep n (d ∷ ds)) x)) e (d ∷ ds)) ∙ l));
    }

    shrinks : (k : ℕ) (xs : List ℕ) → Rounds sep n k xs → 0 < length xs → length (left (chosen sep n xs) xs) < length xs
    shrinks k [] r h = absurd (not-suc-le-zero h)
    shrinks k (d ∷ ds) r h = fewer sep n d ds r.separable

    module _ (xs : List ℕ) (is : Going n pol key i top v m c xs) where
      pub going-under : {w : ℕ} → length pol ≡ w → All (λ d. d < w) xs
      going-under e = λ k d l. rw (get_or_default xs k d 0 l) (omega (arith, is.below (get_or xs k 0) (elem_at xs k l)))

      -- while one stands there are rounds left
      pub going-room : 0 < length xs → c < top
      going-room h = omega (arith, is.rounds.enough, is.total)

      -- none stands
      pub going-stop : length xs ≡ 0 → record { value = v; mask = m; fixed_bits = c; wildcards_left = wildcards n m } ≡ isolate n pol key i
      going-stop z = sym (resume-stop sep n key v m c is.k) ∙ rw (none-left xs z) at is.same

      -- one stands: p is the position that the scan found, and `out` are those that it leaves
      module _ {p : ℕ} {out : List ℕ} (at : p ≡ chosen sep n xs) (are : out ≡ left p xs) (h : 0 < length xs) where
        pub going_less : length out < length xs
        going_less = rw (are, at) (shrinks is.k xs is.rounds h)

        pub going_next : {v' m' : List ℕ} → v' ≡ put_bit v p (bit_at key p) → m' ≡ put_bit m p 1
            → Going n pol key i top v' m' (c + 1) out
        going_next ev em = rw (ev, em, are, at) (round is.k xs is.total is.rounds is.same is.below h)
