-- `policy::record::record_answer` meets its contract: at each answer the tests that led there say which it is. Assumes nothing.
use borrow.Author.Tests.{lt-ltb, le-ltb}
use Rattle.std.proofs.lemmas.Result.{err_from_is_err_and}
use Rattle.policy.proofs.CheckLaws.{check-refused, check-passed, check-count}
use Rattle.policy.specs.RecordAnswers.{record_refusal, record_answer}
use Rattle.policy.proofs.record.record_answer.Goals as goal

pub returns-in_err-count : goal.returns-in_err-count
unfolding record_answer record_refusal
returns-in_err-count c =
    let p = err_from_is_err_and c.from_residual.result c.from_residual.ensures.1 in rw (p.1, p.2, check-refused _ _ c.in_err-count.ensures)

pub returns-then-number-count : goal.returns-then-number-count
unfolding record_answer record_refusal
returns-then-number-count c =
    let e = c.in_ok-count.ensures in rw (check-passed _ _ e, le-ltb _ _ (rw (check-count _ _ e) at c.if-number-count.true))

pub returns : goal.returns
unfolding record_answer record_refusal
returns c = let e = c.in_ok-count.ensures in rw (check-passed _ _ e, lt-ltb _ _ (rw (check-count _ _ e) at c.if-number-count.false))
