-- What is kept of a list, one item after the other. Assumes nothing.
use mathlib.Core.Path.{◌≡◌, sym, ap, ◌∙◌}
use mathlib.Core.Bool.{Bool, true, false, cond}
use mathlib.Core.List.{List, [], ◌∷◌, ◌++◌, append-nil}
use Prim.Native.Nat.{ℕ, ◌+◌, ◌<◌}
use native.Mathlib.Numerals.{add-one}
use lib.ListN.{length, take, get_or, length-append}
use lib.Seq.{take-suc}
use Rattle.model.specs.Below.{keep}
use Rattle.model.proofs.BelowLaws.{keep-last}

-- one item more: it is kept, or it is not
module _ (f : ℕ → Bool) (items : List ℕ) (i : ℕ) (l : i < length items) where
  keep-next : keep f (take (i + 1) items) ≡ keep f (take i items) ++ cond (f (get_or items i 0)) (get_or items i 0 ∷ []) []
  keep-next = rw (add-one i, take-suc items i 0 l) (keep-last f (take i items) (get_or items i 0))

  pub kept : f (get_or items i 0) ≡ true → keep f (take i items) ++ (get_or items i 0 ∷ []) ≡ keep f (take (i + 1) items)
  kept t = sym (keep-next ∙ rw t)

  pub passed : f (get_or items i 0) ≡ false → keep f (take i items) ≡ keep f (take (i + 1) items)
  passed t = sym (keep-next ∙ rw t (append-nil _))

  -- how many are kept, where n were kept of those before
  module _ {n : ℕ} (e : n ≡ length (keep f (take i items))) where
    pub count_kept : f (get_or items i 0) ≡ true → n + 1 ≡ length (keep f (take (i + 1) items))
    count_kept t = rw e (sym (length-append (keep f (take i items)) (get_or items i 0 ∷ [])) ∙ ap length (kept t))

    pub count-passed : f (get_or items i 0) ≡ false → n ≡ length (keep f (take (i + 1) items))
    count-passed t = e ∙ ap length (passed t)
