-- Laws of a report at the keeper.
pub mod ReportLaws
-- Laws of the open slots.
pub mod OpenLaws
