-- Runs one after another.
pub mod AcceptedRuns
pub mod Promise
