-- Laws of showing the decision, and what it promises.
pub mod AnswerLaws
pub mod Promise
