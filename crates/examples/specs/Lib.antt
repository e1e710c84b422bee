-- The source documents' worked examples, as the rules answer them.
pub mod Examples
-- The small policy's cases, over its 96 bytes.
pub mod Cases
