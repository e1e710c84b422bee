-- Laws of parts of a file of test cases.
pub mod CaseLaws
