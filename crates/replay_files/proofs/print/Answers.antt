-- `replay_files::print` meets its contract: what is written lies in the output. Assumes what std says of a write.
use Rattle.lines.proofs.PutLaws.{counts}
use Rattle.replay_files.proofs.print.Goals as goal

pub slice_bounds-out-end : goal.slice_bounds-out-end
slice_bounds-out-end g c = (counts c.text-n.ensures).0

pub slice_bounds-write_all-end : goal.slice_bounds-write_all-end
slice_bounds-write_all-end g c = (counts c.text-n.ensures).1
