-- Laws of numbers, of parts, of bytes, and of records of one size.
pub mod BigEndianLaws
pub mod PartLaws
pub mod ByteLaws
pub mod FieldLaws
pub mod RecordLaws
pub mod RowLaws
