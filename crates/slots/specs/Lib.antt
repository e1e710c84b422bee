-- What it is to put an entry into its slot, and to store a write.
pub mod Puts
pub mod Stores
-- What a slot is with one hit more, in the bytes of its table.
pub mod Hits
-- The slot for a new entry.
pub mod Choose
-- What a report that is taken changes in the keeper's buffer.
pub mod Settle
