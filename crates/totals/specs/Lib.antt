-- The totals that runs advance.
pub mod Sums
