-- `keeper::reports::check_report` meets its contract: the keeper's test, the bytes', then the slot's. Assumes nothing.
use mathlib.Core.Path.{refl, ◌∙◌}
use Rattle.std.proofs.lemmas.Result.{err_from_is_err_and}
use Rattle.keeper.specs.Reports.{report_refused, report_answer}
use Rattle.checks.proofs.RefusalLaws.{answer-refused, answer-given, verdict-refused, verdict-fine}
use Rattle.keeper.proofs.ReportLaws.{bytes-long, bytes-message}
use Rattle.keeper.proofs.reports.check_report.Goals as goal

pub returns-in_err-count : goal.returns-in_err-count
unfolding report_answer report_refused
returns-in_err-count c =
    let p = err_from_is_err_and c.from_residual.result c.from_residual.ensures.1 in
    rw (p.1, p.2, answer-refused _ _ c.in_err-count.ensures refl)

pub report_of-requires : goal.report_of-requires
report_of-requires c = bytes-long _ (bytes-message _ ∙ verdict-fine _ c.in_ok-check_message.ensures refl)

pub check_slot-requires : goal.check_slot-requires
check_slot-requires c = (answer-given _ _ c.in_ok-count.ensures refl).1

pub returns-in_err-check_message : goal.returns-in_err-check_message
unfolding report_answer report_refused
returns-in_err-check_message c =
    let p = err_from_is_err_and c.from_residual-in_err-check_message.result c.from_residual-in_err-check_message.ensures.1 in
    rw (
      p.1,
      p.2,
      (answer-given _ _ c.in_ok-count.ensures refl).0,
      bytes-message c.args.message.now,
      verdict-refused _ c.in_err-check_message.ensures refl,
    )

pub returns : goal.returns
unfolding report_answer report_refused
returns c =
    rw (
      (answer-given _ _ c.in_ok-count.ensures refl).0,
      bytes-message c.args.message.now,
      verdict-fine _ c.in_ok-check_message.ensures refl,
      ← c.report_of.ensures,
    ) c.check_slot.ensures
