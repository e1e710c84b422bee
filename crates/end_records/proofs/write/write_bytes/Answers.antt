-- `end_records::write::write_bytes` meets its contract: the four parts are the fields in their order. Assumes nothing.
use mathlib.Core.Path.{◌∙◌}
use Rattle.end_records.specs.Writes.{encode_write}
use Rattle.end_records.proofs.write.write_bytes.Goals as goal

pub returns : goal.returns
unfolding encode_write
returns c = c.entry_bytes.ensures ∙ rw (c.head_bytes-head.ensures, c.tail_bytes-tail.ensures)
