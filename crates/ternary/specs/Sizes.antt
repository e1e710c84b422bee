-- The sizes of a key. Assumes nothing.
use Rattle.std.specs.Prelude.{ℕ, ◌*◌}

-- source address 4, destination address 4, source port 2, destination port 2, protocol 1
abbrev pub key_size : ℕ
key_size = 13

-- position 0 is the top bit of byte 0, and the last one the lowest bit of the last byte
abbrev pub positions : ℕ
positions = key_size * 8
