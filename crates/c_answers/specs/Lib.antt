-- The numbers that C is told of an answer.
pub mod Answers
-- Where a record lies that is shown, as C is told it.
pub mod Parts
-- What the call that isolates tells C, and what it leaves in the output.
pub mod Isolate
pub mod IsolateCalls
-- What the run tells C, and what it leaves in the buffers and the totals.
pub mod RunCalls
