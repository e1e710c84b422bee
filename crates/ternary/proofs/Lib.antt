-- Rows byte by byte: how a test of bytes is a test of positions, for every width.
pub mod ByteLaws
pub mod PatternBytes
-- Laws of the bits of a pattern: counted, and under wildcards.
pub mod CountLaws
pub mod StrayBytes
pub mod StrayLaws
-- Laws of a store that changes one bit of a row.
pub mod StoreLaws
