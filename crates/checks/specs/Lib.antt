-- What is wrong with a record, and the refusals.
pub mod Refusals
pub mod Flaws
pub mod Keys
-- How an end's buffer of slots is refused.
pub mod BufferRefusals
-- The first flawed record.
pub mod Flawed
-- How a message is refused.
pub mod Messages
