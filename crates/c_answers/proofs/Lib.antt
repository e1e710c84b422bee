-- Laws of the call that isolates, with an output.
pub mod IsolateLaws
