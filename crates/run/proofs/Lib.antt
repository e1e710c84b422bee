-- Laws of a write that is sent, and of a report that goes to the keeper.
pub mod SendLaws
-- Laws of a packet's messages, each delivered at once.
pub mod MissLaws
pub mod HitLaws
-- Laws of a run's packets.
pub mod StepLaws
-- Laws of a run.
pub mod RunLaws
