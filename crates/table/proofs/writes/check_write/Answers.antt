-- `table::writes::check_write` meets its contract: at each `return` the tests that led there say which refusal it is. Assumes nothing.
use mathlib.Core.Path.{refl}
use Rattle.std.proofs.lemmas.Result.{err_from_is_err_and}
use borrow.Author.Tests.{le-leb, lt-leb}
use Rattle.checks.proofs.RefusalLaws.{answer-refused, answer-given, verdict-refused, verdict-fine}
use Rattle.table.specs.Writes.{write_call_refusal}
use Rattle.table.proofs.writes.check_write.Goals as goal

pub returns-in_err-count : goal.returns-in_err-count
unfolding write_call_refusal
returns-in_err-count c =
    let p = err_from_is_err_and c.from_residual.result c.from_residual.ensures.1 in
    rw (p.1, p.2, answer-refused _ _ c.in_err-count.ensures refl)

pub returns-in_err-check_message : goal.returns-in_err-check_message
unfolding write_call_refusal
returns-in_err-check_message c =
    let p = err_from_is_err_and c.from_residual-in_err-check_message.result c.from_residual-in_err-check_message.ensures.1 in
    let count = answer-given _ _ c.in_ok-count.ensures refl in
    rw (p.1, p.2, count.0, verdict-refused _ (rw count.1 at c.in_err-check_message.ensures) refl)

pub returns-then-out_len-lt-REPORT_SIZE : goal.returns-then-out_len-lt-REPORT_SIZE
unfolding write_call_refusal
returns-then-out_len-lt-REPORT_SIZE c =
    let count = answer-given _ _ c.in_ok-count.ensures refl in
    rw (
      count.0,
      verdict-fine _ (rw count.1 at c.in_ok-check_message.ensures) refl,
      lt-leb _ _ c.if-out_len-lt-REPORT_SIZE.true,
    )

pub returns : goal.returns
unfolding write_call_refusal
returns c =
    let count = answer-given _ _ c.in_ok-count.ensures refl in
    rw (
      count.0,
      verdict-fine _ (rw count.1 at c.in_ok-check_message.ensures) refl,
      le-leb _ _ c.if-out_len-lt-REPORT_SIZE.false,
    )
