-- Laws of what separates, of what is kept of a list, and of columns.
pub mod SeparateLaws
pub mod StandingLaws
pub mod ColumnLaws
-- Laws of the scan of positions, and of the rounds.
pub mod RoundsLaws
-- What the call's tests come to, and what its answer promises.
pub mod AnswerLaws
pub mod Promise
