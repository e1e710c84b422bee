-- `end_records::write::write_of` meets its contract: each field is what its reader ensures. Assumes nothing.
use Rattle.end_records.specs.Writes.{decode_write}
use Rattle.end_records.proofs.write.write_of.Goals as goal

pub returns : goal.returns
unfolding decode_write
returns c = cc
