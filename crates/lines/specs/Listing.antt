-- Lines in a lent output, one after another. Assumes nothing.
use Rattle.std.specs.Prelude.{◌≡◌, List, ℕ, length}
use Rattle.buffers.specs.Parts.{splice, records_in, spelled}
use Rattle.records.specs.Layout.{outcome_size}
use Rattle.records.specs.Outcomes.{decode_outcome}
use Rattle.lines.specs.Printed.{outcome_line}

-- the lines of the first n records of a run's output
unfoldable pub lines_in : ℕ → List ℕ → List ℕ
lines_in n records = spelled outcome_line (records_in outcome_size decode_outcome n records)

-- the text went to the output's start, no other byte changed, and its length is given
pub record TextPut (text out : List ℕ) (r : ℕ) (out' : List ℕ) : Type 0 where
  pub whole : out' ≡ splice 0 text out
  pub count : r ≡ length text
