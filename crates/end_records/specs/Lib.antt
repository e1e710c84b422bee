-- The slots of an end: what the bytes mean, and the bytes of a meaning.
pub mod Slots
pub mod SlotStructs
-- What the two ends send each other: what the bytes mean, and the bytes of a meaning.
pub mod Writes
pub mod Reports
pub mod MessageStructs
