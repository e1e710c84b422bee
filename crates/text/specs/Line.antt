-- How long a line of text may be. Assumes nothing.
use Rattle.std.specs.Prelude.{ℕ, ◌+◌, ◌*◌}
use Rattle.text.specs.Decimal.{most_digits}

-- a number or a dash, and the space or newline after it, are at most so long
abbrev pub word_size : ℕ
word_size = most_digits + 1

-- a line has at most five of them
abbrev pub line_size : ℕ
line_size = 5 * word_size
