-- What a buffer of slots that is not refused is. Assumes nothing.
use mathlib.Core.Path.{◌≡◌}
use mathlib.Core.Bool.{true, ◌&&◌}
use mathlib.Core.List.{List}
use Rattle.std.specs.Prelude.{None}
use mathlib.Core.Logic.{◌↔◌}
use Prim.Native.Nat.{ℕ, ◌%◌}
use native.Mathlib.Omega.{arith}
use lib.Dec.{leb, eqb}
use lib.ListN.{length}
use borrow.Author.Tests.{eqb-true, leb-true, eq-eqb, le-leb}
use Rattle.checks.specs.declared.refusal.Refusal.TheVariants.{BadSlots}
use Rattle.model.proofs.Cases.{and_left, and_right}
use Rattle.ternary.specs.Sizes.{key_size}
use Rattle.records.specs.Layout.{slot_size, most_slots}
use Rattle.checks.proofs.RefusalLaws.{need-none}
use Rattle.records.specs.SlotBuffers.{slot_count, WholeSlots}
use Rattle.checks.specs.BufferRefusals.{slots_fit, slots_refusal}

module _ (bs : List ℕ) where
  pub fit-whole : slots_fit bs ≡ true → WholeSlots bs
  unfolding slots_fit
  fit-whole e =
      let whole = eqb (length bs % slot_size key_size) 0 in
      let some-there = leb 1 (slot_count key_size bs) in
      let few-there = leb (slot_count key_size bs) most_slots in
      let ends : length bs % slot_size key_size ≡ 0 = eqb-true _ _ (and_left whole (some-there && few-there) e) in
      let rest : some-there && few-there ≡ true = and_right whole (some-there && few-there) e in
      record {
        whole = omega arith;
        some-there = leb-true 1 _ (and_left some-there few-there rest);
        few-there = leb-true _ _ (and_right some-there few-there rest);
      }

  whole-fit : WholeSlots bs → slots_fit bs ≡ true
  unfolding slots_fit
  whole-fit h =
      let ends : length bs % slot_size key_size ≡ 0 = omega (arith, h.whole) in
      rw (eq-eqb _ _ ends, le-leb 1 _ h.some-there, le-leb _ _ h.few-there)

  -- not refused are exactly the buffers of 1 to 256 whole slots
  pub slots-accepted : (slots_refusal bs ≡ None) ↔ WholeSlots bs
  unfolding slots_refusal
  slots-accepted = (λ e. fit-whole (need-none (slots_fit bs) BadSlots None e).0, λ h. rw (whole-fit h))
