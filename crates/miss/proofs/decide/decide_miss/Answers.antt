-- `miss::decide::decide` meets its contract: the best rule decides, or there is none. Assumes nothing.
use Rattle.miss.proofs.DecideLaws.{no-rule, rule-for, has-rule}
use Rattle.miss.proofs.decide.decide_miss.Goals as goal

pub invariant_of-miss : goal.invariant_of-miss
invariant_of-miss c =
    record {
      ruled = rule-for _ _ c.args.keeper.now c.requires c.best_rule.ensures c.in-Some.is;
      whole = c.requires.whole;
    }

pub returns-in-None : goal.returns-in-None
returns-in-None c =
    no-rule _ _ _ c.requires c.best_rule.ensures c.in-None.is c.no_write.ensures

pub returns-in-Some : goal.returns-in-Some
returns-in-Some c =
    has-rule _ _ _
    (rule-for _ _ c.args.keeper.now c.requires c.best_rule.ensures c.in-Some.is)
    c.with_rule.ensures
