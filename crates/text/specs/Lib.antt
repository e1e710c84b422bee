-- Numbers as text, the words of a line, and its length.
pub mod Decimal
pub mod Words
pub mod Line
-- What slots.txt says.
pub mod SlotsText
