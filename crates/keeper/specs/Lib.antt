-- What the keeper answers to a report, and what it leaves in its buffer.
pub mod Reports
-- What the call for the open list answers, and what it leaves in the output.
pub mod Opens
