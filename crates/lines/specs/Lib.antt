-- The lines that the program prints.
pub mod Printed
-- Lines in a lent output.
pub mod Listing
