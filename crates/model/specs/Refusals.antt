-- The numbers that a refusal carries. Assumes nothing.
use Rattle.std.specs.Prelude.{ℕ}

-- length not whole records; key, write or report of another length than its own
abbrev pub ragged : ℕ
ragged = 1

-- more rules or trace records than there may be
abbrev pub too_many : ℕ
too_many = 2

-- nonzero spare byte, or value bit under a wildcard
abbrev pub bad_record : ℕ
bad_record = 3

-- slot buffer not of whole slots, or not of 1 to 256
abbrev pub bad_slots : ℕ
bad_slots = 4

-- output shorter than the answer
abbrev pub short_output : ℕ
short_output = 5

-- rule number not below the rule count
abbrev pub no_such_rule : ℕ
no_such_rule = 6

-- rule is not the key's best
abbrev pub not_best : ℕ
not_best = 7

-- wrong kind byte
abbrev pub wrong_kind : ℕ
wrong_kind = 8

-- slot not below the slot count
abbrev pub no_such_slot : ℕ
no_such_slot = 9

-- sequence 0
abbrev pub sequence_zero : ℕ
sequence_zero = 10

-- report's sequence larger than the keeper's in that slot
abbrev pub report_ahead : ℕ
report_ahead = 11

-- table and keeper lengths differ
abbrev pub lengths_differ : ℕ
lengths_differ = 12

-- some total above 9,000,000,000,000,000,000 before a run
abbrev pub totals_full : ℕ
totals_full = 13
