-- A list by value.
pub mod ListOf
-- Lists of rule numbers, and the output that they are written to.
pub mod Written
pub mod Answers
