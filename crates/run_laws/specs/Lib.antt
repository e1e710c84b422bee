-- Runs one after another: what their totals come to, and a trace cut in two.
pub mod Calls
