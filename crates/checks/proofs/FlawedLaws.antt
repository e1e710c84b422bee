-- The search for the first flawed record, and when there is none. Assumes nothing.
use mathlib.Core.Path.{◌≡◌, refl, sym, ap, ◌∙◌}
use mathlib.Core.Bool.{true, false}
use mathlib.Core.List.{List, ◌++◌}
use Rattle.std.specs.Prelude.{Option, None, Some, is_some, option_map, option_and_then}
use mathlib.Core.Logic.{◌↔◌}
use Prim.Native.Nat.{ℕ, ◌+◌, ◌*◌, ◌-◌, ◌/◌, ◌≤◌, ◌<◌}
use native.Mathlib.Omega.{arith}
use lib.Dec.{ltb}
use lib.ListN.{length, take, drop, length-append, length-drop}
use lib.Seq.{drop-drop, take-append_seam, drop-append_seam}
use Rattle.std.proofs.lemmas.Nat.{div_below, le-div}
use Rattle.model.specs.Below.{first_below}
use Rattle.model.proofs.BelowLaws.{Passed, passed_none, passed-more}
use Rattle.model.proofs.OrderLaws.{foremost-none, foremost-some, first_found, first-missed}
use Rattle.buffers.specs.Parts.{chunk}
use Rattle.checks.specs.declared.flaw.Flaw.{Flaw}
use Rattle.checks.specs.declared.flawed.Flawed.{Flawed}
use Rattle.checks.specs.Flawed.{first_flawed, flawed_at, flaw_at}

-- what has no flaw is clean
pub none-of : (x : Option Flaw) → is_some x ≡ false → x ≡ None
none-of None e = refl
none-of (Some f) e = let z : true ≡ false = cc in let y : ◌≡◌ {A = ℕ} 0 1 = cc in absurd (omega arith)

-- ---- a loop over records of one size, where g tells the flaw of a record's bytes

-- no record below i has a flaw, and `rest` is what is left from the i-th on
pub record Unflawed (g : List ℕ → Option Flaw) (size : ℕ) (bs : List ℕ) (i : ℕ) (rest : List ℕ) : Type 0 where
  pub left : rest ≡ drop (size * i) bs
  pub below : size * i ≤ length bs
  pub passed : Passed (λ k. is_some (flaw_at g size bs k) ≡ false) i

module _ {g : List ℕ → Option Flaw} {size : ℕ} {bs : List ℕ} where
  pub unflawed-none : Unflawed g size bs 0 bs
  unflawed-none = let e : size * 0 ≡ 0 = omega arith in record { left = rw e refl; below = omega arith; passed = passed_none }

  module _ {i : ℕ} {rest : List ℕ} (is : Unflawed g size bs i rest) where
    left-long : length rest ≡ length bs - size * i
    left-long = ap length is.left ∙ length-drop _ _

    -- no whole record is left: the search has passed all
    pub flawed-nowhere : 0 < size → length rest < size → None ≡ first_flawed (flaw_at g size bs) (length bs / size)
    unfolding first_flawed
    flawed-nowhere some l =
        let m : (i + 1) * size ≡ size * i + size = omega arith in
        let all : length bs < (i + 1) * size = omega (arith, left-long, is.below) in
        let passed : length bs / size ≤ i = omega (arith, div_below (length bs) size (i + 1) some all) in
        sym (ap (option_and_then (flawed_at (flaw_at g size bs)))
        (first-missed (λ k. is_some (flaw_at g size bs k)) (length bs / size) i is.passed passed))

    -- the next is looked at
    module _ (x rest' : List ℕ) (cut : rest ≡ x ++ rest') (whole : length x ≡ size) where
      is-chunk : x ≡ chunk size bs i
      is-chunk =
          sym (take-append_seam x rest')
          ∙ ap (take (length x)) (sym cut ∙ is.left)
          ∙ ap (λ (k : ℕ). take k (drop (size * i) bs)) whole

      onward : size * (i + 1) ≡ size * i + length x
      onward = omega (arith, whole)

      -- it has no flaw either
      pub unflawed-more : g x ≡ None → Unflawed g size bs (i + 1) rest'
      unflawed-more h =
          record {
            left =
                sym (drop-append_seam x rest')
                ∙ ap (drop (length x)) (sym cut ∙ is.left)
                ∙ drop-drop (length x) (size * i) bs
                ∙ ap (λ (j : ℕ). drop j bs) (sym onward);
            below = omega (arith, onward, left-long, is.below, ap length cut, length-append x rest');
            passed = passed-more is.passed (ap is_some (ap g (sym is-chunk) ∙ h));
          }

      -- the search stops at it
      pub flawed-here : (f : Flaw) → 0 < size → g x ≡ Some f → Some (record { place = i; flaw = f })
          ≡ first_flawed (flaw_at g size bs) (length bs / size)
      unfolding first_flawed
      flawed-here f some h =
          let there : flaw_at g size bs i ≡ Some f = ap g (sym is-chunk) ∙ h in
          let m : (i + 1) * size ≡ size * i + length x = omega (arith, whole) in
          let fits : (i + 1) * size ≤ length bs = omega (arith, left-long, is.below, ap length cut, length-append x rest') in
          let l : i < length bs / size = omega (arith, le-div (i + 1) (length bs) size some fits) in
          sym (ap (option_and_then (flawed_at (flaw_at g size bs)))
          (first_found (λ k. is_some (flaw_at g size bs k)) (length bs / size) i is.passed l (ap is_some there))
          ∙ ap (option_map {U = Flawed} (λ (y : Flaw). record { place = i; flaw = y })) there)

-- ---- all records are clean

missed : (f : ℕ → Option Flaw) (o : Option ℕ) → ((i : ℕ) → o ≡ Some i → is_some (f i) ≡ true)
    → option_and_then (flawed_at f) o ≡ None → o ≡ None
missed f None has e = refl
missed f (Some i) has e = kept (f i) (has i refl) e
  where
    kept : (x : Option Flaw) → is_some x ≡ true → option_map {U = Flawed} (λ y. record { place = i; flaw = y }) x ≡ None → Some i ≡ None
    kept None h e = let z : true ≡ false = cc in let y : ◌≡◌ {A = ℕ} 0 1 = cc in absurd (omega arith)
    kept (Some y) h e = let z : ◌≡◌ {A = ℕ} 0 1 = cc in absurd (omega arith)

pub all-clean : (f : ℕ → Option Flaw) (n : ℕ) → (first_flawed f n ≡ None) ↔ ((i : ℕ) → i < n → f i ≡ None)
unfolding first_flawed
all-clean f n = (
  λ e i l.
      let nowhere =
      missed f (first_below (λ k. is_some (f k)) n) (λ k found. (foremost-some (λ j. is_some (f j)) ltb n k found).1) e in
      none-of (f i) (foremost-none (λ k. is_some (f k)) ltb n nowhere i l),
  λ h. ap (option_and_then (flawed_at f)) (first-missed (λ k. is_some (f k)) n n (record { at = λ k l. ap is_some (h k l) }) (omega arith)),
)
