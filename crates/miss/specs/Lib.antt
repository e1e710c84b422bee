-- A decision on a miss, by value.
pub mod Decision
-- What a miss comes to, by value.
pub mod Decide
-- A decision on a miss, carried out: what it leaves in the buffers.
pub mod Carry
-- What the keeper answers to a miss, and what it leaves in the buffers.
pub mod Answers
