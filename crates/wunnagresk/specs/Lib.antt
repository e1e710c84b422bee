-- What each call of the library tells C, and what it leaves in the buffers.
pub mod TableCalls
pub mod KeeperCalls
pub mod PolicyCalls
pub mod Named
