-- `records::trace::key_at` meets its contract: the key is a part of the record, and the record of the trace. Assumes nothing.
use mathlib.Core.Path.{sym}
use Prim.Native.Nat.{◌*◌}
use native.Mathlib.Omega.{arith}
use native.Mathlib.Nat.{add-sub_cancel_left}
use Rattle.buffers.proofs.PartLaws.{part-part}
use Rattle.ternary.specs.Sizes.{key_size}
use Rattle.records.specs.Layout.{trace_key, trace_size}
use Rattle.records.specs.Traces.{decode_trace}
use Rattle.records.proofs.trace.key_at.Goals as goal

pub returns : goal.returns
unfolding decode_trace
returns c =
    let a = c.args in
    rw add-sub_cancel_left (sym (part-part key_size trace_key (trace_size key_size) (trace_size key_size * a.i) a.trace.now (omega arith)))
