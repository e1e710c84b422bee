-- What the program prints, from the bytes of its three files. Assumes nothing.
use Rattle.std.specs.Prelude.{◌≡◌, List, ◌++◌, map, ℕ, ◌+◌, ◌*◌, ◌≤◌, replicate, Option, None, Some, Result, Ok, Err}
use Rattle.ends.specs.Records.{Outcome, Totals}
use Rattle.ends.specs.Totals.{cleared_totals, totals_after}
use Rattle.ternary.specs.Sizes.{key_size}
use Rattle.buffers.specs.Parts.{spelled}
use Rattle.records.specs.Layout.{slot_size, most_packets}
use Rattle.checks.specs.Refusals.{or_else, number_of, place_of}
use Rattle.checks.specs.declared.refusal.Refusal.{Refusal}
use Rattle.records.specs.Outcomes.{decode_outcome, encode_outcome}
use Rattle.totals.specs.Sums.{as_totals}
use Rattle.policy.specs.Refusals.{policy_refusal}
use Rattle.run.specs.Refusals.{trace_refusal}
use Rattle.run.specs.Runs.{outcomes_of}
use Rattle.run.specs.declared.Ran.{Ran}
use Rattle.text.specs.Line.{line_size}
use Rattle.lines.specs.Printed.{outcome_line, totals_line, refusal_line}
use Rattle.lines.specs.Listing.{lines_in}
use Rattle.replay_text.specs.Files.{slots_of, file_refusal}

-- an end of n cleared slots
abbrev pub cleared_end : ℕ → List ℕ
cleared_end n = replicate (slot_size key_size * n) 0

-- what a run from cleared ends of n slots tells of each packet
abbrev pub outcomes_from : ℕ → List ℕ → List ℕ → List Outcome
outcomes_from n policy trace = outcomes_of policy trace (cleared_end n) (cleared_end n)

-- an outcome as its record tells it
abbrev pub recorded : Outcome → Outcome
recorded x = decode_outcome (encode_outcome x)

-- a line for each packet, then the totals
unfoldable pub run_text : List Outcome → List ℕ
run_text xs = spelled outcome_line (map recorded xs) ++ totals_line (totals_after cleared_totals xs)

-- policy 1, 2, 3; trace 1, 2, 3
unfoldable pub call_refusal : List ℕ → List ℕ → Option Refusal
call_refusal policy trace = or_else (policy_refusal policy) (trace_refusal trace)

-- the refusal's line alone, or the run
abbrev pub text_for : Option Refusal → List Outcome → List ℕ
text_for (Some r) xs = refusal_line (number_of r) (place_of r)
text_for None xs = run_text xs

-- slots.txt 4; policy file 2; trace file 2; then the library's order
unfoldable pub text_of_replay : List ℕ → List ℕ → List ℕ → List ℕ
text_of_replay slots policy trace =
    text_for (or_else (file_refusal slots policy trace) (call_refusal policy trace)) (outcomes_from (slots_of slots) policy trace)

-- what is printed of a run that answered this, with these totals, and whose output is `records`
abbrev pub ran_text : Result ℕ Refusal → Totals → List ℕ → List ℕ
ran_text (Err r) t records = refusal_line (number_of r) (place_of r)
ran_text (Ok n) t records = lines_in n records ++ totals_line t

-- how many packets it had
abbrev pub packets_of : Result ℕ Refusal → ℕ
packets_of (Err r) = 0
packets_of (Ok n) = n

-- a run from cleared ends of n slots, with its output after it
pub record RanCleared (n : ℕ) (policy trace : List ℕ) (ran : Ran) (records : List ℕ) : Type 0 where
  pub text : ran_text ran.answer (as_totals ran.totals) records ≡ text_for (call_refusal policy trace) (outcomes_from n policy trace)
  pub few : packets_of ran.answer ≤ most_packets

-- no text is longer
abbrev pub most_text : ℕ
most_text = line_size * (most_packets + 1)
