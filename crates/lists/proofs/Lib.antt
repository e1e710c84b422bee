-- Laws of lists of numbers: gathered by a loop, and their bytes.
pub mod GatherLaws
pub mod ByteLaws
-- An item put into a list.
pub mod MoveLaws
