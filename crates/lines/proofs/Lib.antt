-- Laws of lines in a lent output.
pub mod TextLaws
pub mod RecordLines
pub mod PutLaws
