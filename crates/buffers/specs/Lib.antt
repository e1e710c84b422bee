-- Bytes of a lent buffer: numbers, parts, and records of one size.
pub mod BigEndian
pub mod Parts
