-- The code's struct as the model's record. Assumes nothing.
use Rattle.ends.specs.Records.{Slot}
use Rattle.end_records.specs.declared.slot.Slot.{Slot as SlotStruct}

abbrev pub as_slot : SlotStruct → Slot
as_slot x =
    record {
      sequence = x.sequence;
      hits = x.hits;
      value = x.pattern.value;
      mask = x.pattern.mask;
      action = x.action;
      rule = x.rule;
      settled = x.settled;
      spare = x.spare;
    }
