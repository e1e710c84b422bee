-- Laws of the policy's calls: what the check accepts, what the answers tell their callers, and fields read in place.
pub mod Acceptance
pub mod CheckLaws
-- What the answer on a record tells its callers.
pub mod RecordShown
-- What the tests of the parts say.
pub mod LentLaws
-- Laws of the best rule, for its callers.
pub mod SearchLaws
pub mod BestLaws
