-- `ternary::matches_row` meets its contract: no byte below i refuses. Assumes nothing.
use borrow.Author.Rules.{rules}
use Rattle.model.proofs.BelowLaws.{passed_none, passed-more}
use Rattle.ternary.proofs.ByteLaws.{bytes_of}
use Rattle.ternary.proofs.PatternBytes.{matches-yes, matches-no}
use Rattle.ternary.proofs.matches_row.Goals as goal

pub loop-i-init : goal.loop-i-init
loop-i-init c = search (rules, passed_none)

pub returns-then-key-i-ne0 : goal.returns-then-key-i-ne0
returns-then-key-i-ne0 c = search (rules, matches-no, bytes_of)

pub loop-i-preserved : goal.loop-i-preserved
loop-i-preserved c = search (rules, passed-more)

pub returns : goal.returns
returns c = search (rules, matches-yes)
