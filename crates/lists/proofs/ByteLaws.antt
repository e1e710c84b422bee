-- The bytes of a list of numbers, written one number after the other, and read. Assumes nothing.
use Prim.Native.Nat.{ℕ, zero, suc, ◌+◌, ◌*◌, ◌^◌, ◌≤◌, ◌<◌}
use mathlib.Core.Path.{◌≡◌, refl, ap, ◌∙◌}
use mathlib.Core.List.{List, [], ◌∷◌, ◌++◌}
use native.Mathlib.Omega.{arith}
use native.Mathlib.Numerals.{add-one}
use lib.ListN.{length, take, get_or}
use lib.Seq.{take-suc, length-take-le}
use Rattle.buffers.specs.BigEndian.{be, to_be}
use Rattle.buffers.specs.Parts.{part, splice, spelled}
use Rattle.buffers.proofs.PartLaws.{length-splice, splice-next}
use Rattle.buffers.proofs.RowLaws.{spelled-more, length-spelled}
use Rattle.buffers.proofs.BigEndianLaws.{to_be-length, be-to_be}
use Rattle.lists.specs.Written.{number_bytes}

-- the j-th number, read
pub number_at : (xs rest : List ℕ) (j : ℕ) → j < length xs → get_or xs j 0 < 2 ^ 16 → be (part 2 (2 * j) (number_bytes xs ++ rest)) ≡ get_or xs j 0
unfolding spelled
number_at [] rest j l low = absurd (omega arith)
number_at (x ∷ xs) rest zero l low = be-to_be 2 x low
number_at (x ∷ xs) rest (suc j) l low =
    let n : 2 * suc j ≡ suc (suc (2 * j)) = omega arith in
    rw n (number_at xs rest j (omega arith) low)

module _ (items out₀ : List ℕ) where
  -- the first i numbers are written
  pub record Written (i : ℕ) (out : List ℕ) : Type 0 where
    pub long : length out ≡ length out₀
    pub bytes : out ≡ splice 0 (number_bytes (take i items)) out₀

  pub written_none : Written 0 out₀
  unfolding splice spelled
  written_none = record { long = refl; bytes = refl }

  pub written-more : {i : ℕ} {out out' : List ℕ} → i < length items → 2 * i + 2 ≤ length out₀ → Written i out
      → out' ≡ splice (2 * i) (to_be 2 (get_or items i 0)) out → Written (i + 1) out'
  written-more {i} {out} l fits is e =
      let x : List ℕ = to_be 2 (get_or items i 0) in
      let n : length x ≡ 2 = to_be-length 2 (get_or items i 0) in
      let m : length (number_bytes (take i items)) ≡ 2 * i =
      length-spelled (to_be 2) 2 (to_be-length 2) (take i items) ∙ rw (length-take-le i items (omega arith))
      in
      record {
        long = ap length e ∙ length-splice (2 * i) x out (omega (arith, n, is.long)) ∙ is.long;
        bytes = e
            ∙ ap (splice (2 * i) x) is.bytes
            ∙ splice-next 0 (2 * i) (number_bytes (take i items)) x out₀ (omega (arith, m)) (omega (arith, n))
            ∙ rw (add-one, take-suc items i 0 l, spelled-more);
      }
