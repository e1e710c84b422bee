-- `show::show` meets its contract: the record that the answer names lies in its buffer, whose part is lent. Assumes nothing.
use mathlib.Core.Path.{sym}
use native.Mathlib.Omega.{arith}
use native.Mathlib.Nat.{add-sub_cancel_left}
use Rattle.show.specs.Answers.{shown_part}
use Rattle.show.proofs.AnswerLaws.{table_below, policy-below}
use Rattle.show.proofs.show.Goals as goal

-- the slot is one of the table, the rule one of the policy
pub slice_bounds-result-end : goal.slice_bounds-result-end
slice_bounds-result-end c =
    let p = c.in-Ok-Some-Table in
    omega (arith, c.from-at.ensures, table_below _ _ _ _ (sym (rw (p.field-0-is, p.field-0-0-is) at p.ensures)))

pub slice_bounds-result-end-in-Ok-Some-Policy : goal.slice_bounds-result-end-in-Ok-Some-Policy
slice_bounds-result-end-in-Ok-Some-Policy c =
    let p = c.in-Ok-Some-Policy in
    omega (arith, c.from-at-in-Ok-Some-Policy.ensures, policy-below _ _ _ _ (sym (rw (p.field-0-is, p.field-0-0-is) at p.ensures)))

pub returns-in-Ok-Some-Table : goal.returns-in-Ok-Some-Table
unfolding shown_part
returns-in-Ok-Some-Table c =
    let p = c.in-Ok-Some-Table in
    rw (← (rw (p.field-0-is, p.field-0-0-is) at p.ensures), c.from-at.ensures, add-sub_cancel_left)

pub returns-in-Ok-Some-Policy : goal.returns-in-Ok-Some-Policy
unfolding shown_part
returns-in-Ok-Some-Policy c =
    let p = c.in-Ok-Some-Policy in
    rw (← (rw (p.field-0-is, p.field-0-0-is) at p.ensures), c.from-at-in-Ok-Some-Policy.ensures, add-sub_cancel_left)

pub returns-in-Ok-None : goal.returns-in-Ok-None
unfolding shown_part
returns-in-Ok-None c = rw (← (rw c.in-Ok-None.field-0-is at c.in-Ok-None.ensures))

pub returns-in-Err : goal.returns-in-Err
unfolding shown_part
returns-in-Err c = rw (← c.in-Err.ensures)
