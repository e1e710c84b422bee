-- `end_records::slot::slot_bytes` meets its contract: the four parts are the fields in their order. Assumes nothing.
use mathlib.Core.Path.{◌∙◌}
use Rattle.end_records.specs.Slots.{encode_slot}
use Rattle.end_records.proofs.slot.slot_bytes.Goals as goal

pub returns : goal.returns
unfolding encode_slot
returns c = c.entry_bytes.ensures ∙ rw (c.head_bytes-head.ensures, c.tail_bytes-tail.ensures)
