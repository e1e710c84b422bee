-- Laws of decimals.
pub mod DecimalLaws
-- Laws of what slots.txt says.
pub mod SlotsTextLaws
