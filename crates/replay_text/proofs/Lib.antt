-- Laws of the answer about the files.
pub mod FileLaws
-- Laws of what is printed.
pub mod RanLaws
pub mod ClearedRun
