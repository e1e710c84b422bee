-- What follows. In reading order.
pub mod Slots
pub mod Refusals
pub mod Show
pub mod Protocol
pub mod Invariant
pub mod Meaning
pub mod Events
pub mod Promise
pub mod TraceLink
pub mod InnerRefusals
pub mod Totals
pub mod SmallRuns
