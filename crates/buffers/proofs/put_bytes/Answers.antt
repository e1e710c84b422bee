-- `buffers::put_bytes` meets its contract: the part between two places is replaced. Assumes nothing.
use mathlib.Core.List.{append_assoc}
use native.Mathlib.Nat.{add-sub_cancel_left}
use lib.ListN.{length}
use lib.Seq.{drop-drop}
use Rattle.buffers.specs.Parts.{splice}
use Rattle.buffers.proofs.put_bytes.Goals as goal

pub returns : goal.returns
unfolding splice
returns c =
    let a = c.args in
    rw (c.copy_from_slice.ensures.after, add-sub_cancel_left a.at _, drop-drop (length a.src.now) a.at, append_assoc)
