-- Laws of the lookup, and of the reports of a table's slots.
pub mod SlotReports
pub mod LookupLaws
-- Laws of the call; what the table's calls are in the model.
pub mod WriteLaws
pub mod ModelLaws
pub mod AfterLaws
