-- The small policy's runs, by computation. Assumes nothing.
use mathlib.Core.Path.{refl}
use Rattle.model.specs.Below.{all_below, count_below, most_below, ahead, foremost, insert, listed, keep}
use Rattle.model.specs.Bits.{digit, bit_at, put_digit, put_bit, with_bits}
use Rattle.model.specs.Pattern.{exact_at, same_at, matches, parts, overlap, canonical, wildcards}
use Rattle.model.specs.Policy.{rule_at, before, rule_matches, rules_overlap, best, dependents}
use Rattle.model.specs.Isolate.{separates, chosen, rounds, fixed_by, isolated_at, isolate}
use Rattle.model.specs.Small.{row, small_policy}
use Rattle.ends.specs.Ends.{holds, first_for, write_refusal, after_write, write_report, largest, given_up, slot_for_entry, on_miss}
use Rattle.ends.specs.Ends.{report_refusal, after_report, open_list}
use Rattle.ends.specs.World.{start, step, run}
use Rattle.ends.specs.Trace.{one_packet, one_outcome, outcomes}
use Rattle.ends.specs.Totals.{count_of, totals_after}
use Rattle.ends.specs.SmallRuns.{six_keys, line, six_outcomes, SixPackets, after, two_misses, reversed, in_order, then_report}
use Rattle.ends.specs.SmallRuns.{sequences, Reversed, InOrder, keeper_at, LastSequence}

pub small-runs : SixPackets × Reversed × InOrder × LastSequence
unfolding all_below count_below most_below ahead foremost insert listed keep digit bit_at put_digit put_bit with_bits exact_at same_at matches
    parts overlap canonical wildcards rule_at before rule_matches rules_overlap best dependents separates chosen rounds fixed_by isolated_at
    isolate row small_policy holds first_for write_refusal after_write write_report largest given_up slot_for_entry on_miss report_refusal
    after_report open_list start step run one_packet one_outcome outcomes count_of totals_after six_keys line six_outcomes after
    two_misses reversed in_order then_report sequences keeper_at
small-runs = (
  record { answers = refl; sums = refl },
  record { holds = refl; unchanged = refl; both-reports = refl; still_open = refl; first-report = refl; second-report = refl },
  record { own-reports = refl; older-report = refl; newer-report = refl },
  record { last = refl; used-up = refl },
)
