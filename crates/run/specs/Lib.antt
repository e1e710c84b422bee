-- A write that goes to the table, and its report to the keeper.
pub mod Send
-- One packet of a run, over the buffers of the two ends.
pub mod Packets
-- The packets of a run, one after another.
pub mod Steps
-- How a run is refused.
pub mod Refusals
-- A trace run: what it does.
pub mod Runs
