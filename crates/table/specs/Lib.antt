-- The table looks a key up: the answer, and what it leaves in the buffers.
pub mod Lookups
-- The table receives a write: the answer, and what it leaves in the buffers.
pub mod Writes
