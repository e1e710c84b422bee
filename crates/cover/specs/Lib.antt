-- Lists in order of precedence.
pub mod Ranks
-- The test for a dependent, and what the cover list's call answers.
pub mod Depends
pub mod Answers
