-- The bytes of a list of numbers. Assumes nothing.
use Rattle.std.specs.Prelude.{List, ℕ}
use Rattle.buffers.specs.BigEndian.{to_be}
use Rattle.buffers.specs.Parts.{spelled}

-- the numbers of a list, two bytes each
abbrev pub number_bytes : List ℕ → List ℕ
number_bytes xs = spelled (to_be 2) xs
