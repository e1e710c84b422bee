-- `test_replay::ask` is safe: what is printed lies in the output. Assumes what std says of a write.
use Rattle.lines.proofs.PutLaws.{counts}
use Rattle.test_replay.proofs.ask.Goals as goal

pub slice_bounds-out-end : goal.slice_bounds-out-end
slice_bounds-out-end g c = (counts c.text-n.ensures).0

pub slice_bounds-say-end-2 : goal.slice_bounds-say-end-2
slice_bounds-say-end-2 g c = (counts c.text-n.ensures).1
