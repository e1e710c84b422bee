-- `buffers::put_be16` meets its contract: std's word for the bytes of a number is `to_be`. Assumes nothing.
use Rattle.buffers.proofs.BigEndianLaws.{high-first}
use Rattle.buffers.proofs.put_be16.Goals as goal

pub returns : goal.returns
returns c = rw (c.to_be_bytes.ensures, high-first 2 c.args.x) at c.put_bytes.ensures
