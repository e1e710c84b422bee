-- Showing the decision: which record is shown, its bytes, and what that promises.
pub mod Answers
pub mod Promise
