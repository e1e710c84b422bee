-- `policy::search::best_rule` meets its contract: of the rules below the number the best is kept. Assumes nothing.
use mathlib.Core.Path.{sym, ◌∙◌}
use native.Mathlib.Omega.{arith}
use Rattle.ternary.specs.Sizes.{key_size}
use Rattle.records.proofs.RuleLaws.{rule-count}
use Rattle.policy.specs.Best.{best_found}
use Rattle.policy.proofs.SearchLaws.{kept-none, kept-passed, kept-better, kept-all}
use Rattle.policy.proofs.search.best_rule.Goals as goal
use Rattle.policy.proofs.search.best_rule.Goals.{then-rule_matches, else-rule_matches}

pub loop-number-init : goal.loop-number-init
loop-number-init c = kept-none _ _ _

pub loop-number-preserved : goal.loop-number-preserved
loop-number-preserved c =
    let m = sym c.rule_matches.ensures in
    let is = c.loop-number.invariant in
    elim c.if-rule_matches.branch [
      | then-rule_matches w ↦
          rw (w.best-is, w.better.ensures, w.rule_priority-priority.ensures)
          (kept-better _ _ _ _ _ is (m ∙ w.if-rule_matches.true))
      | else-rule_matches w ↦ rw w.best-is (kept-passed _ _ _ _ _ is (m ∙ w.if-rule_matches.false))
    ]

pub returns-in_err-number : goal.returns-in_err-number
unfolding best_found
returns-in_err-number c =
    let all = rule-count key_size c.args.policy.now in
    let whole = kept-all _ _ _ _ _ c.loop-number.invariant (omega (arith, all, c.loop-number-test.false, c.loop-number.auto.number-end)) in
    rw (c.from_residual.ensures, whole, c.in_err-number.was)

pub returns : goal.returns
unfolding best_found
returns c =
    let all = rule-count key_size c.args.policy.now in
    let whole = kept-all _ _ _ _ _ c.loop-number.invariant (omega (arith, all, c.loop-number-test.false, c.loop-number.auto.number-end)) in
    rw (whole, c.in_ok-number.was, c.rule_action.ensures)
