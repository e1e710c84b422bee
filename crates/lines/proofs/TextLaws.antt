-- Lines written one after another from an output's start. Assumes nothing.
use mathlib.Core.Path.{◌≡◌, refl, ap, ◌∙◌}
use mathlib.Core.List.{List, ◌++◌}
use Prim.Native.Nat.{ℕ, suc, ◌+◌, ◌*◌, ◌≤◌, ◌<◌}
use native.Mathlib.Numerals.{add-one}
use native.Mathlib.Omega.{arith}
use lib.ListN.{length, take, get_or, length-append}
use lib.Seq.{take-suc, take_all}
use Rattle.buffers.specs.Parts.{splice, spelled}
use Rattle.buffers.proofs.PartLaws.{splice-next}
use Rattle.buffers.proofs.RowLaws.{spelled-more}
use Rattle.text.specs.Line.{line_size}

-- the first i of the records xs are spelled at the start of the output
pub record Spelt {A : Type 0} (f : A → List ℕ) (xs : List A) (out₀ : List ℕ) (i : ℕ) (out : List ℕ) (at : ℕ) : Type 0 where
  pub below : i ≤ length xs
  pub text : out ≡ splice 0 (spelled f (take i xs)) out₀
  pub place : at ≡ length (spelled f (take i xs))
  pub small : at ≤ line_size * i

module _ {A : Type 0} (f : A → List ℕ) (xs : List A) (out₀ : List ℕ) where
  pub spelt-none : Spelt f xs out₀ 0 out₀ 0
  unfolding spelled splice
  spelt-none = record { below = omega arith; text = refl; place = refl; small = omega arith }

  module _ {i at : ℕ} {out : List ℕ} (s : Spelt f xs out₀ i out at) where
    pub spelt-more : (d : A) {line : List ℕ} {out' : List ℕ} {at' : ℕ} → i < length xs → line_size * length xs ≤ length out₀
        → line ≡ f (get_or xs i d) → out' ≡ splice at line out → at' ≡ at + length line → at' ≤ at + line_size → Spelt f xs out₀ (i + 1) out' at'
    spelt-more d {line} l room a e n short =
        let front = spelled f (take i xs) in
        let word = f (get_or xs i d) in
        let longer : spelled f (take (suc i) xs) ≡ front ++ word =
        ap (spelled f) (take-suc xs i d l) ∙ spelled-more f (take i xs) (get_or xs i d)
        in
        let long : length line ≡ length word = ap length a in
        let fits : at + length word ≤ length out₀ = omega (arith, s.small) in
        let next : splice at line out ≡ splice at word (splice 0 front out₀) = rw (a, s.text) in
        record {
          below = omega arith;
          text =
              rw (add-one, longer) (e ∙ next ∙ splice-next 0 at front word out₀ (omega (arith, s.place)) fits);
          place = rw (add-one, longer) (simp length-append (omega (arith, s.place)));
          small = omega (arith, s.small);
        }

    pub spelt-all : length xs ≤ i → (out ≡ splice 0 (spelled f xs) out₀) × (at ≡ length (spelled f xs))
    spelt-all l =
        let all : take i xs ≡ xs = take_all i xs l in
        (rw all at s.text, rw all at s.place)
