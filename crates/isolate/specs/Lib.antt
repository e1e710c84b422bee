-- What the contracts on separating cite, above the model.
pub mod Columns
pub mod Asked
-- What the contracts on the rounds cite, above the model.
pub mod Leads
pub mod Ready
pub mod Structs
-- What the call that isolates answers, and what that promises.
pub mod Answers
pub mod Promise
