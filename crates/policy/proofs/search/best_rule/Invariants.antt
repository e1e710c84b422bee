-- `policy::search::best_rule` meets its contract: of the rules below the number the best is kept. Assumes nothing.
use Rattle.ternary.specs.Sizes.{key_size, positions}
use Rattle.records.specs.Rules.{rules as rules_of}
use Rattle.policy.proofs.SearchLaws.{KeptBest}
use Rattle.policy.proofs.search.best_rule.Given as goal

abbrev pub invariant-loop-number : goal.invariant-loop-number
invariant-loop-number l = KeptBest positions (rules_of key_size l.policy) l.key l.number l.best
