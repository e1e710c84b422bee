-- `buffers::be16` meets its contract: std's word for the number of two bytes is `be`. Assumes nothing.
use mathlib.Core.Path.{ap, ◌∙◌}
use borrow.Author.Rules.{rules}
use Rattle.buffers.specs.BigEndian.{be}
use Rattle.buffers.proofs.BigEndianLaws.{spells-two}
use Rattle.buffers.proofs.be16.Goals as goal

pub returns : goal.returns
returns c = c.from_be_bytes.ensures ∙ spells-two _ (search rules) ∙ ap be c.bytes_at.ensures
