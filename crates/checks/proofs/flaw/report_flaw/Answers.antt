-- `checks::flaw::report_flaw` meets its contract: it is the flaw of the spare bytes. Assumes nothing.
use borrow.Author.Rules.{rules}
use Rattle.checks.specs.Flaws.{report_flaw}
use Rattle.checks.proofs.flaw.report_flaw.Goals as goal

pub returns : goal.returns
returns c = unfold report_flaw in search rules
