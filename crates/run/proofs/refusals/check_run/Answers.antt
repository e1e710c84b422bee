-- `run::refusals::check_run` meets its contract: at each `return` the tests that led there say which refusal it is. Assumes nothing.
use mathlib.Core.Path.{refl, sym, ◌∙◌}
use borrow.Author.Tests.{le-leb, lt-leb}
use Rattle.std.proofs.lemmas.Result.{err_from_is_err_and}
use Rattle.checks.proofs.RefusalLaws.{answer-refused, answer-given, verdict-refused, verdict-fine}
use Rattle.policy.proofs.CheckLaws.{check-refused, check-passed}
use Rattle.run.specs.Refusals.{run_refusal}
use Rattle.run.proofs.refusals.check_run.Goals as goal

pub returns-in_err-check : goal.returns-in_err-check
unfolding run_refusal
returns-in_err-check c =
    let p = err_from_is_err_and c.from_residual.result c.from_residual.ensures.1 in rw (p.1, p.2, check-refused _ _ c.in_err-check.ensures)

pub returns-in_err-packets : goal.returns-in_err-packets
unfolding run_refusal
returns-in_err-packets c =
    let p = err_from_is_err_and c.from_residual-in_err-packets.result c.from_residual-in_err-packets.ensures.1 in
    rw (p.1, p.2, check-passed _ _ c.in_ok-check.ensures, answer-refused _ _ c.in_err-packets.ensures refl)

pub returns-in_err-check_ends : goal.returns-in_err-check_ends
unfolding run_refusal
returns-in_err-check_ends c =
    let p = err_from_is_err_and c.from_residual-in_err-check_ends.result c.from_residual-in_err-check_ends.ensures.1 in
    rw (
      p.1,
      p.2,
      check-passed _ _ c.in_ok-check.ensures,
      (answer-given _ _ c.in_ok-packets.ensures refl).0,
      verdict-refused _ c.in_err-check_ends.ensures refl,
    )

pub returns-then-not-totals_fit : goal.returns-then-not-totals_fit
unfolding run_refusal
returns-then-not-totals_fit c =
    rw (
      check-passed _ _ c.in_ok-check.ensures,
      (answer-given _ _ c.in_ok-packets.ensures refl).0,
      verdict-fine _ c.in_ok-check_ends.ensures refl,
      sym c.totals_fit.ensures ∙ c.if-not-totals_fit.true,
    )

-- nothing is refused; it stands first, so that a test that refuses too little fails here
pub returns : goal.returns
unfolding run_refusal
returns c =
    let packets = answer-given _ _ c.in_ok-packets.ensures refl in
    rw (
      check-passed _ _ c.in_ok-check.ensures,
      packets.0,
      verdict-fine _ c.in_ok-check_ends.ensures refl,
      sym c.totals_fit.ensures ∙ c.if-not-totals_fit.false,
      le-leb _ _ (rw packets.1 at c.if-out_len-packets.false),
    )

pub returns-then-out_len-packets : goal.returns-then-out_len-packets
unfolding run_refusal
returns-then-out_len-packets c =
    let packets = answer-given _ _ c.in_ok-packets.ensures refl in
    rw (
      check-passed _ _ c.in_ok-check.ensures,
      packets.0,
      verdict-fine _ c.in_ok-check_ends.ensures refl,
      sym c.totals_fit.ensures ∙ c.if-not-totals_fit.false,
      lt-leb _ _ (rw packets.1 at c.if-out_len-packets.true),
    )
