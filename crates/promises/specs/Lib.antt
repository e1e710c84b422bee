-- The two ends as bytes, the calls on them in any order, and what holds whatever the link does.
pub mod Calls
pub mod Promise
pub mod RunPromise
pub mod AnyCall
-- One input admits one answer.
pub mod OneAnswer
