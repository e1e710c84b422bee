-- `end_records::slot::put_slot` meets its contract: the bytes of the slot are copied to its place. Assumes nothing.
use borrow.Author.Rules.{rules}
use mathlib.Core.Path.{◌≡◌, ap, ◌∙◌}
use native.Mathlib.Omega.{arith}
use Rattle.ternary.specs.Sizes.{key_size}
use Rattle.end_records.specs.SlotStructs.{as_slot}
use Rattle.end_records.specs.Slots.{put_slot, slots}
use Rattle.end_records.proofs.SlotLaws.{slots-put}
use Rattle.end_records.proofs.slot.put_slot.Goals as goal

pub returns : goal.returns
returns c =
    let a = c.args in
    let e : c.put_bytes.new.s ≡ put_slot key_size a.s.now a.i (as_slot a.x) = cc in
    record {
      bytes = e;
      meaning = ap (slots key_size) e ∙ slots-put key_size a.s.now a.i (as_slot a.x) c.requires (omega arith) (search rules);
    }
