-- Laws of rules and traces: decoding and encoding undo each other.
pub mod RuleLaws
pub mod TraceLaws
-- Laws of outcomes: decoding and encoding undo each other; which give a write, and which place its entry.
pub mod OutcomeLaws
pub mod SlotBufferLaws
