-- The policy that a caller lends: how it is refused, and what is answered from it.
pub mod Refusals
pub mod Answers
-- What is answered about a rule's record.
pub mod RecordAnswers
-- The refusals of a policy, a key and an end that are lent together.
pub mod Lent
-- The best rule of a key, and what the call for it answers.
pub mod Best
pub mod BestAnswers
