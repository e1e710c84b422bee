-- Traces: the keys that a trace's records hold. Assumes nothing.
use Rattle.std.specs.Prelude.{ℕ, ◌/◌, List, [], ◌∷◌, ◌++◌, length}
use Rattle.buffers.specs.Parts.{part, chunk, records_in}
use Rattle.records.specs.Layout.{trace_key, trace_size}

-- the key of a record
unfoldable pub decode_trace : ℕ → List ℕ → List ℕ
decode_trace w c = part w trace_key c

unfoldable pub encode_trace : List ℕ → List ℕ
encode_trace key = key ++ (0 ∷ 0 ∷ 0 ∷ [])

-- how many packets a trace holds, and its i-th key
abbrev pub packet_count : ℕ → List ℕ → ℕ
packet_count w bs = length bs / trace_size w

abbrev pub key_in : ℕ → List ℕ → ℕ → List ℕ
key_in w bs i = decode_trace w (chunk (trace_size w) bs i)

-- the keys of a trace, in order
unfoldable pub keys : ℕ → List ℕ → List (List ℕ)
keys w bs = records_in (trace_size w) (decode_trace w) (packet_count w bs) bs
