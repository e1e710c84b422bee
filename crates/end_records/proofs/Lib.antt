-- Laws of slots: decoding and encoding undo each other, to put a slot is to set it, and fields in place.
pub mod SlotLaws
pub mod InPlace
pub mod ByteSlots
-- Laws of messages: decoding and encoding undo each other.
pub mod WriteLaws
pub mod ReportLaws
pub mod SlotBytes
