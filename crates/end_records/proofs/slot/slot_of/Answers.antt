-- `end_records::slot::slot_of` meets its contract: each field is what its reader ensures. Assumes nothing.
use Rattle.end_records.specs.Slots.{decode_slot}
use Rattle.end_records.proofs.slot.slot_of.Goals as goal

pub returns : goal.returns
unfolding decode_slot
returns c = cc
