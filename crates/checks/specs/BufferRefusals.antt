-- How an end's buffer of slots is refused. Assumes nothing.
use Rattle.std.specs.Prelude.{Bool, ◌&&◌, List, ℕ, ◌%◌, leb, eqb, length, Option, None}
use Rattle.checks.specs.declared.refusal.Refusal.TheVariants.{BadSlots}
use Rattle.ternary.specs.Sizes.{key_size}
use Rattle.records.specs.Layout.{slot_size, most_slots}
use Rattle.checks.specs.Refusals.{need}
use Rattle.checks.specs.declared.refusal.Refusal.{Refusal}
use Rattle.records.specs.SlotBuffers.{slot_count}

-- whole slots, at least 1, and at most 256
unfoldable pub slots_fit : List ℕ → Bool
slots_fit bs =
    eqb (length bs % slot_size key_size) 0 && (leb 1 (slot_count key_size bs) && leb (slot_count key_size bs) most_slots)

-- 4: not such a buffer
unfoldable pub slots_refusal : List ℕ → Option Refusal
slots_refusal bs = need (slots_fit bs) BadSlots None
