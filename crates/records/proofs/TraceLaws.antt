-- Laws of traces, for every width. Assumes nothing.
use Prim.Native.Nat.{ℕ, ◌+◌, ◌<◌}
use mathlib.Core.Path.{◌≡◌}
use mathlib.Core.List.{List, [], ◌∷◌}
use native.Mathlib.Omega.{arith}
use lib.ListN.{length, get_or}
use lib.Seq.{take_at}
use Rattle.buffers.proofs.FieldLaws.{part_then, triple-last}
use Rattle.buffers.proofs.RecordLaws.{records-count, records-at}
use Rattle.records.specs.Layout.{trace_key, trace_spare, trace_size}
use Rattle.records.specs.Traces.{decode_trace, encode_trace, packet_count, key_in, keys}

-- what was encoded is decoded
pub decode-encode-trace : (w : ℕ) (key : List ℕ) → length key ≡ w → decode_trace w (encode_trace key) ≡ key
unfolding decode_trace encode_trace
decode-encode-trace w key l = take_at key (0 ∷ 0 ∷ 0 ∷ []) w l

-- what was decoded is encoded, where the zero bytes are zero
pub encode-decode-trace : (w : ℕ) (c : List ℕ) → length c ≡ trace_size w
    → get_or c (trace_spare w) 0 ≡ 0 → get_or c (trace_spare w + 1) 0 ≡ 0 → get_or c (trace_spare w + 2) 0 ≡ 0
    → encode_trace (decode_trace w c) ≡ c
unfolding decode_trace encode_trace
encode-decode-trace w c l x y z = part_then c w trace_key (triple-last c (trace_spare w) x y z (omega arith))

pub packet-count : (w : ℕ) (bs : List ℕ) → length (keys w bs) ≡ packet_count w bs
unfolding keys
packet-count w bs = records-count (trace_size w) (decode_trace w) (packet_count w bs) bs

pub key-at : (w : ℕ) (bs : List ℕ) (i : ℕ) → i < packet_count w bs → get_or (keys w bs) i [] ≡ key_in w bs i
unfolding keys
key-at w bs i l = records-at (trace_size w) (decode_trace w) [] (packet_count w bs) bs i l
