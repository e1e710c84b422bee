-- `checks::flaw::trace_flaw` meets its contract: it is the flaw of the spare bytes. Assumes nothing.
use borrow.Author.Rules.{rules}
use Rattle.checks.specs.Flaws.{trace_flaw}
use Rattle.checks.proofs.flaw.trace_flaw.Goals as goal

pub returns : goal.returns
returns c = unfold trace_flaw in search rules
