-- `cover::cover` meets its contract: at each way out, the tests that led there say which answer it is. Assumes nothing.
use mathlib.Core.Path.{refl, ◌∙◌}
use native.Mathlib.Omega.{arith}
use Rattle.std.proofs.lemmas.Result.{err_from_is_err_and}
use Rattle.cover.proofs.AnswerLaws.{taken_of, refused-policy, refused-number, covered-list}
use Rattle.cover.proofs.cover.Goals as goal

pub returns-in_err-count : goal.returns-in_err-count
returns-in_err-count c =
    let p = err_from_is_err_and c.from_residual.result c.from_residual.ensures.1 in
    rw (p.1, p.2) (refused-policy _ _ _ c.in_err-count.ensures refl)

pub returns-then-number-count : goal.returns-then-number-count
returns-then-number-count c = refused-number _ _ _ (taken_of c.in_ok-count.ensures refl) (omega (arith, c.if-number-count.true))

pub dependents_of-list-requires : goal.dependents_of-list-requires
dependents_of-list-requires c =
    let is = taken_of c.in_ok-count.ensures refl in
    (omega (arith, is.counted), is.few)

pub returns : goal.returns
returns c =
    covered-list _ _ _ (taken_of c.in_ok-count.ensures refl) (omega (arith, c.if-number-count.false))
    (c.as_slice.ensures.value ∙ c.dependents_of-list.ensures) c.list_answer.ensures
