-- Parts of a file of test cases.
pub mod Cases
