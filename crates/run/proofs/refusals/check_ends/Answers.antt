-- `run::refusals::check_ends` meets its contract: at each `return` the tests that led there say which refusal it is. Assumes nothing.
use mathlib.Core.Path.{refl}
use borrow.Author.Tests.{eq-eqb, ne_eqb}
use Rattle.std.proofs.lemmas.Result.{err_from_is_err_and}
use Rattle.checks.proofs.RefusalLaws.{answer-refused, answer-given}
use Rattle.run.specs.Refusals.{ends_refusal}
use Rattle.run.proofs.refusals.check_ends.Goals as goal

pub returns-in_err-slot_count : goal.returns-in_err-slot_count
unfolding ends_refusal
returns-in_err-slot_count c =
    let p = err_from_is_err_and c.from_residual.result c.from_residual.ensures.1 in
    rw (p.1, p.2, answer-refused _ _ c.in_err-slot_count.ensures refl)

pub returns-in_err-slot_count-2 : goal.returns-in_err-slot_count-2
unfolding ends_refusal
returns-in_err-slot_count-2 c =
    let p = err_from_is_err_and c.from_residual-in_err-slot_count-2.result c.from_residual-in_err-slot_count-2.ensures.1 in
    rw (
      p.1,
      p.2,
      (answer-given _ _ c.in_ok-slot_count.ensures refl).0,
      answer-refused _ _ c.in_err-slot_count-2.ensures refl,
    )

-- nothing is refused; it stands first, so that a test that refuses too little fails here
pub returns : goal.returns
unfolding ends_refusal
returns c =
    rw (
      (answer-given _ _ c.in_ok-slot_count.ensures refl).0,
      (answer-given _ _ c.in_ok-slot_count-2.ensures refl).0,
      eq-eqb _ _ c.if-table-keeper.false,
    )

pub returns-then-table-keeper : goal.returns-then-table-keeper
unfolding ends_refusal
returns-then-table-keeper c =
    rw (
      (answer-given _ _ c.in_ok-slot_count.ensures refl).0,
      (answer-given _ _ c.in_ok-slot_count-2.ensures refl).0,
      ne_eqb _ _ c.if-table-keeper.true,
    )
