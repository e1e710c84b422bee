-- Laws of the place of a number in a list in order.
pub mod RankLaws
-- Laws of rules where they lie, of lists of rule numbers in order, and of the refusals.
pub mod InPlace
pub mod ListLaws
pub mod AnswerLaws
