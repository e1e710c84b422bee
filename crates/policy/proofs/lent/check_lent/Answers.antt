-- `policy::lent::check_lent` meets its contract: at each `return` the tests that led there say which refusal it is. Assumes nothing.
use mathlib.Core.Path.{refl, ap, sym, ◌∙◌}
use Rattle.std.proofs.lemmas.Result.{err_from_is_err_and}
use Rattle.checks.specs.Refusals.{verdict_of}
use Rattle.checks.proofs.RefusalLaws.{answer-refused, answer-given, verdict-refused, verdict-fine}
use Rattle.policy.proofs.LentLaws.{bad-policy, bad-key, rest-end}
use Rattle.policy.proofs.lent.check_lent.Goals as goal

pub returns-in_err-check : goal.returns-in_err-check
returns-in_err-check c =
    let p = err_from_is_err_and c.from_residual.result c.from_residual.ensures.1 in
    rw (p.1, p.2) (sym (ap verdict_of (bad-policy _ _ _ c.check.ensures c.in_err-check.was)))

pub returns-in_err-check_key : goal.returns-in_err-check_key
returns-in_err-check_key c =
    let p = err_from_is_err_and c.from_residual-in_err-check_key.result c.from_residual-in_err-check_key.ensures.1 in
    rw (p.1, p.2) (sym (ap verdict_of (bad-key _ _ _ c.check.ensures c.in_ok-check.was (verdict-refused _ c.in_err-check_key.ensures refl))))

pub returns-in_err-slot_count : goal.returns-in_err-slot_count
returns-in_err-slot_count c =
    let p = err_from_is_err_and c.from_residual-in_err-slot_count.result c.from_residual-in_err-slot_count.ensures.1 in
    let bad = answer-refused _ _ c.in_err-slot_count.ensures refl in
    rw (p.1, p.2) (sym (ap verdict_of (rest-end _ _ _ c.check.ensures c.in_ok-check.was (verdict-fine _ c.in_ok-check_key.ensures refl) ∙ bad)))

pub returns : goal.returns
returns c =
    let fine = (answer-given _ _ c.in_ok-slot_count.ensures refl).0 in
    sym (ap verdict_of (rest-end _ _ _ c.check.ensures c.in_ok-check.was (verdict-fine _ c.in_ok-check_key.ensures refl) ∙ fine))
