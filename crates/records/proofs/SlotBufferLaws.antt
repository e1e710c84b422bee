-- Buffers of whole slots. Assumes nothing.
use mathlib.Core.Path.{◌≡◌}
use mathlib.Core.List.{List}
use Prim.Native.Nat.{ℕ, ◌*◌, ◌≤◌}
use native.Mathlib.Omega.{arith}
use lib.ListN.{length}
use Rattle.ternary.specs.Sizes.{key_size}
use Rattle.records.specs.Layout.{slot_size, most_slots}
use Rattle.records.specs.SlotBuffers.{WholeSlots}

-- a buffer as long as one of whole slots is one
pub as-whole : {a b : List ℕ} → length b ≡ length a → WholeSlots a → WholeSlots b
as-whole e h = record { whole = rw e h.whole; some-there = rw e h.some-there; few-there = rw e h.few-there }

-- a buffer of 1 to 256 slots is one
pub whole-slots : (bs : List ℕ) (n : ℕ) → length bs ≡ slot_size key_size * n → 1 ≤ n → n ≤ most_slots → WholeSlots bs
whole-slots bs n l one few = record { whole = omega arith; some-there = omega arith; few-there = omega arith }
