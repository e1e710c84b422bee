-- What the sizes of the program's files and slots.txt come to, before any other test. Assumes nothing.
use Rattle.std.specs.Prelude.{List, ℕ, ◌*◌, leb, length, Option, None, Result}
use Rattle.std.specs.Option.{is_some, unwrap_or}
use Rattle.checks.specs.declared.refusal.Refusal.TheVariants.{BadSlots, TooMany}
use Rattle.ternary.specs.Sizes.{key_size}
use Rattle.records.specs.Layout.{rule_size, trace_size, most_rules, most_packets}
use Rattle.checks.specs.declared.refusal.Refusal.{Refusal}
use Rattle.checks.specs.Refusals.{need, answer_of}
use Rattle.text.specs.SlotsText.{slots_in}

-- 32,768 and 65,536 bytes
abbrev pub most_policy_bytes : ℕ
most_policy_bytes = rule_size key_size * most_rules

abbrev pub most_trace_bytes : ℕ
most_trace_bytes = trace_size key_size * most_packets

-- how many slots slots.txt gives; where it gives none, it is refused, and there is no run
abbrev pub slots_of : List ℕ → ℕ
slots_of slots = unwrap_or (slots_in slots) 0

-- slots.txt 4; policy file 2; trace file 2
unfoldable pub file_refusal : List ℕ → List ℕ → List ℕ → Option Refusal
file_refusal slots policy trace =
    need (is_some (slots_in slots)) BadSlots
    (need (leb (length policy) most_policy_bytes) TooMany
    (need (leb (length trace) most_trace_bytes) TooMany
    None))

unfoldable pub file_answer : List ℕ → List ℕ → List ℕ → Result ℕ Refusal
file_answer slots policy trace = answer_of (file_refusal slots policy trace) (slots_of slots)
