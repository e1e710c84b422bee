-- `slots::hits::count` meets its contract: the slot that was read, counted, differs from it in its hits alone. Assumes nothing.
use mathlib.Core.Path.{◌≡◌, sym, ap, ◌∙◌}
use Prim.Native.Nat.{◌+◌, ◌*◌}
use native.Mathlib.Omega.{arith}
use Rattle.ends.specs.Records.{Slot}
use Rattle.ends.specs.Ends.{counted}
use Rattle.ternary.specs.Sizes.{key_size}
use Rattle.ternary.proofs.ByteLaws.{bytes_of}
use Rattle.buffers.specs.BigEndian.{to_be}
use Rattle.buffers.specs.Parts.{splice}
use Rattle.records.specs.Layout.{slot_size, slot_hits}
use Rattle.end_records.specs.Slots.{SlotFits, slot_in, slots, put_slot}
use Rattle.end_records.specs.SlotStructs.{as_slot}
use Rattle.end_records.proofs.SlotLaws.{slots-put}
use Rattle.end_records.proofs.ByteSlots.{slot-byte, counted-byte, put-hits}
use Rattle.slots.proofs.hits.count_hit.Goals as goal

pub returns : goal.returns
returns c =
    let bs = c.args.table.now in
    let i = c.args.i in
    let new = as_slot c.counted-new.result in
    let bytes = bytes_of bs c.slice_known-1.given in
    let there : new ≡ counted (slot_in key_size bs i) = c.counted-new.ensures ∙ ap counted c.slot_at-old.ensures in
    let e : c.put_be32.new.s ≡ put_slot key_size bs i new =
    c.put_be32.ensures
    ∙ ap (λ (y : Slot). splice (slot_size key_size * i + slot_hits) (to_be 4 y.hits) bs) there
    ∙ put-hits key_size bs i (omega arith) bytes _
    ∙ ap (put_slot key_size bs i) (sym there)
    in
    let fits : SlotFits key_size new = rw there (counted-byte key_size _ (slot-byte key_size bs i (omega arith) bytes)).fits in
    let meaning = ap (slots key_size) e ∙ slots-put key_size bs i new c.requires (omega arith) fits in
    record { slot = there; put = record { bytes = e; meaning = meaning } }
