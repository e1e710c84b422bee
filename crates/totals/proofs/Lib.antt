-- Laws of the totals.
pub mod SumLaws
