-- Laws of the search for a slot that takes a key.
pub mod FindLaws
-- Laws of a write's storing.
pub mod StoreLaws
-- Laws of the keeper's slots: the loops that find the largest sequence and the slot for a new entry.
pub mod ChooseLaws
-- Laws of taking a report.
pub mod SettleLaws
