-- What is computed of the papers' examples.
pub mod Examples
-- What is computed of the small policy's cases.
pub mod Cases
