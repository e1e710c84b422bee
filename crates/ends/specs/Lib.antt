-- What the rules say of the two ends and of a run, on decoded values. In reading order.
pub mod Records
pub mod Ends
pub mod Show
pub mod World
pub mod Promise
pub mod Trace
pub mod TraceLink
pub mod Totals
pub mod SmallRuns
