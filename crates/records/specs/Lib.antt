-- The records: where each field stands, what the bytes mean, and the bytes of a meaning.
pub mod Layout
pub mod Rules
pub mod Traces
pub mod Structs
-- What a run tells of each packet: what the bytes mean, and the bytes of a meaning.
pub mod Outcomes
pub mod SlotBuffers
