-- Laws of flaws: where a stray bit lies, and what a clean record is; and of tests that do not refuse.
pub mod FlawLaws
pub mod FlawedLaws
pub mod CleanLaws
pub mod RefusalLaws
-- How an end's buffer of slots is refused.
pub mod FitLaws

-- Laws of the first flawed record.
