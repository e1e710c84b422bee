-- Where each field of a record begins, for keys of w bytes; sizes and limits. A record's last field ends at its size. Assumes nothing.
use Rattle.std.specs.Prelude.{ℕ, ◌+◌}

-- ---- rule: value, mask, priority 2, action 2, zero 2

abbrev pub rule_value : ℕ
rule_value = 0

abbrev pub rule_mask : ℕ → ℕ
rule_mask w = rule_value + w

abbrev pub rule_priority : ℕ → ℕ
rule_priority w = rule_mask w + w

abbrev pub rule_action : ℕ → ℕ
rule_action w = rule_priority w + 2

abbrev pub rule_spare : ℕ → ℕ
rule_spare w = rule_action w + 2

abbrev pub rule_size : ℕ → ℕ
rule_size w = rule_spare w + 2

-- ---- trace: key, zero 3

abbrev pub trace_key : ℕ
trace_key = 0

abbrev pub trace_spare : ℕ → ℕ
trace_spare w = trace_key + w

abbrev pub trace_size : ℕ → ℕ
trace_size w = trace_spare w + 3

-- ---- slot: sequence 4, hits 4, value, mask, action 2, rule number 2, settled 1, zero 1

abbrev pub slot_sequence : ℕ
slot_sequence = 0

abbrev pub slot_hits : ℕ
slot_hits = 4

abbrev pub slot_value : ℕ
slot_value = 8

abbrev pub slot_mask : ℕ → ℕ
slot_mask w = slot_value + w

abbrev pub slot_action : ℕ → ℕ
slot_action w = slot_mask w + w

abbrev pub slot_rule : ℕ → ℕ
slot_rule w = slot_action w + 2

abbrev pub slot_settled : ℕ → ℕ
slot_settled w = slot_rule w + 2

abbrev pub slot_spare : ℕ → ℕ
slot_spare w = slot_settled w + 1

abbrev pub slot_size : ℕ → ℕ
slot_size w = slot_spare w + 1

-- ---- write: kind 1, zero 1, slot 2, sequence 4, value, mask, action 2, rule number 2, zero 2

abbrev pub write_kind : ℕ
write_kind = 0

abbrev pub write_zero : ℕ
write_zero = 1

abbrev pub write_slot : ℕ
write_slot = 2

abbrev pub write_sequence : ℕ
write_sequence = 4

abbrev pub write_value : ℕ
write_value = 8

abbrev pub write_mask : ℕ → ℕ
write_mask w = write_value + w

abbrev pub write_action : ℕ → ℕ
write_action w = write_mask w + w

abbrev pub write_rule : ℕ → ℕ
write_rule w = write_action w + 2

abbrev pub write_spare : ℕ → ℕ
write_spare w = write_rule w + 2

abbrev pub write_size : ℕ → ℕ
write_size w = write_spare w + 2

-- the kind byte of every write
abbrev pub is_write : ℕ
is_write = 1

-- ---- report: kind 1, zero 1, slot 2, sequence 4, hits 4

abbrev pub report_kind : ℕ
report_kind = 0

abbrev pub report_zero : ℕ
report_zero = 1

abbrev pub report_slot : ℕ
report_slot = 2

abbrev pub report_sequence : ℕ
report_sequence = 4

abbrev pub report_hits : ℕ
report_hits = 8

abbrev pub report_size : ℕ
report_size = 12

-- the kind byte of every report
abbrev pub is_report : ℕ
is_report = 2

-- ---- outcome: outcome 1, zero 1, action 2, rule 2, slot 2, evicted rule 2, zero 2

abbrev pub outcome_kind : ℕ
outcome_kind = 0

abbrev pub outcome_zero : ℕ
outcome_zero = 1

abbrev pub outcome_action : ℕ
outcome_action = 2

abbrev pub outcome_rule : ℕ
outcome_rule = 4

abbrev pub outcome_slot : ℕ
outcome_slot = 6

abbrev pub outcome_evicted : ℕ
outcome_evicted = 8

abbrev pub outcome_spare : ℕ
outcome_spare = 10

abbrev pub outcome_size : ℕ
outcome_size = 12

-- ---- limits, for keys of 13 bytes

abbrev pub most_rules : ℕ
most_rules = 1024

abbrev pub most_packets : ℕ
most_packets = 4096

abbrev pub most_slots : ℕ
most_slots = 256
