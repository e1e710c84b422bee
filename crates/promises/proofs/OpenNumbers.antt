-- What an accepted open call says: the numbers of the open slots, read from its output. Assumes nothing.
use mathlib.Core.Path.{◌≡◌, refl, ◌∙◌}
use mathlib.Core.Bool.{true}
use mathlib.Core.List.{List, [], ◌∷◌}
use Rattle.std.specs.Prelude.{None, Ok}
use Prim.Native.Nat.{ℕ, ◌*◌, ◌<◌}
use native.Mathlib.Omega.{arith}
use lib.ListN.{length}
use Rattle.model.specs.Below.{elem}
use Rattle.model.proofs.BelowLaws.{place_in}
use Rattle.buffers.specs.BigEndian.{be}
use Rattle.buffers.specs.Parts.{part, splice}
use Rattle.records.specs.Layout.{most_slots}
use Rattle.lists.proofs.ByteLaws.{number_at}
use Rattle.keeper.specs.Opens.{open_in, open_refusal, Opened}
use Rattle.checks.proofs.RefusalLaws.{answer-given}

-- ---- what an accepted open call says

pub empty-list : (xs : List ℕ) → 0 ≡ length xs → xs ≡ []
empty-list [] e = refl
empty-list (x ∷ xs) e = absurd (omega arith)

module _ (keeper : List ℕ) (n : ℕ) (out out' : List ℕ) (is : Opened keeper out (Ok n) out') where
  -- it is not refused, and says how many slots are open
  pub open-fine : (open_refusal keeper (length out) ≡ None) × (n ≡ length (open_in keeper))
  open-fine = answer-given (open_refusal keeper (length out)) (length (open_in keeper)) is.answer refl

  -- an open slot is one of the numbers that it wrote
  pub open-listed : (i : ℕ) → i < most_slots → elem i (open_in keeper) ≡ true → (j : ℕ) × (j < n) × (be (part 2 (2 * j) out') ≡ i)
  unfolding splice
  open-listed i few e =
      let r = place_in i (open_in keeper) e in
      let w = rw open-fine.0 at is.out-after in
      (r.0, omega (arith, r.1, open-fine.1), rw w (number_at (open_in keeper) _ r.0 r.1 (omega (arith, r.2)) ∙ r.2))
