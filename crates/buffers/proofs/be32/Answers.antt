-- `buffers::be32` meets its contract: std's word for the number of four bytes is `be`. Assumes nothing.
use mathlib.Core.Path.{ap, ◌∙◌}
use borrow.Author.Rules.{rules}
use Rattle.buffers.specs.BigEndian.{be}
use Rattle.buffers.proofs.BigEndianLaws.{spells-four}
use Rattle.buffers.proofs.be32.Goals as goal

pub returns : goal.returns
returns c = c.from_be_bytes.ensures ∙ spells-four _ (search rules) ∙ ap be c.bytes_at.ensures
