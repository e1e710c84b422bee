-- Every call of a sequence is one event of the model, or a run of several, so what the model keeps holds of the bytes. In reading order.
pub mod MessageBytes
pub mod MissBytes
pub mod PacketBytes
pub mod Given
pub mod Grown
pub mod Meaning
pub mod TableSteps
pub mod KeeperSteps
pub mod RunSteps
pub mod Steps
pub mod Start
pub mod OpenNumbers
pub mod AnyCall
pub mod Promise
-- One input admits one answer.
pub mod OneAnswer
