-- Laws of the write that a decision gives.
pub mod GivenLaws
-- Laws of the decisions about one slot.
pub mod DecisionLaws
-- Laws of the decision on a miss.
pub mod DecideLaws
-- Laws of a decision that is carried out.
pub mod OutcomeLaws
pub mod CarryLaws
-- Laws of a miss that arrives at the keeper.
pub mod AnswerLaws
