-- Bytes that have the bits of what is separated, and how many have a bit. Assumes nothing.
use mathlib.Core.Path.{◌≡◌, refl, sym, ap, ap₂, ◌∙◌}
use mathlib.Core.Bool.{Bool, false, beq, cond}
use mathlib.Core.List.{List, [], ◌∷◌, ◌++◌}
use Prim.Native.Nat.{ℕ, ◌+◌, ◌*◌, ◌<◌}
use native.Mathlib.Omega.{arith}
use native.Mathlib.Numerals.{add-one}
use lib.ListN.{length, take, get_or}
use lib.Seq.{take-suc}
use Rattle.model.specs.Below.{keep, all_below}
use Rattle.model.specs.Bits.{digit}
use Rattle.model.proofs.BelowLaws.{all-at, length_last}
use Rattle.ternary.proofs.ByteLaws.{beq_same}
use Rattle.isolate.specs.Columns.{bit_set, Marks}

-- ---- the column, one of the standing after the other

-- the byte 0 has no bit
none-set : (q : ℕ) → q < 8 → bit_set q 0 ≡ false
unfolding bit_set digit all_below
none-set q l = beq_same _ _ (all-at (λ q. beq (bit_set q 0) false) 8 refl q l)

module _ (sep : ℕ → ℕ → Bool) (b : ℕ) where
  pub marks-none : Marks sep b [] []
  unfolding keep
  marks-none = record { each = λ q l. refl }

  -- the next has the bits of x
  module _ (items : List ℕ) (i : ℕ) (l : i < length items) (bytes : List ℕ) (is : Marks sep b (take i items) bytes) (x : ℕ)
      (has : (q : ℕ) → q < 8 → bit_set q x ≡ sep (b * 8 + q) (get_or items i 0)) where
    next : (q : ℕ) → q < 8
        → length (keep (bit_set q) bytes) + cond (bit_set q x) 1 0 ≡ length (keep (sep (b * 8 + q)) (take (i + 1) items))
    next q h =
        ap₂ ◌+◌ (is.each q h) (ap (λ (t : Bool). cond t 1 0) (has q h))
        ∙ sym (rw (add-one i, take-suc items i 0 l) (length_last (sep (b * 8 + q)) (take i items) (get_or items i 0)))

    pub marks-more : Marks sep b (take (i + 1) items) (bytes ++ (x ∷ []))
    marks-more = record { each = λ q h. length_last (bit_set q) bytes x ∙ next q h }

    pub marks-same : x ≡ 0 → Marks sep b (take (i + 1) items) bytes
    marks-same z = record { each = λ q h. let e : bit_set q x ≡ false = rw z (none-set q h) in omega (arith, rw e at (next q h)) }
