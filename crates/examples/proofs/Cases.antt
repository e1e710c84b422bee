-- The small policy's cases (a) to (k), together, by computation; and (k) for every key. Assumes nothing.
use Rattle.std.specs.Prelude.{Ok, None}
use mathlib.Core.Path.{◌≡◌, refl}
use mathlib.Core.List.{List, [], map}
use lib.ListN.{length}
use Prim.Native.Nat.{ℕ}
use borrow.Author.Tests.{eq-eqb}
use Rattle.model.specs.Below.{all_below, count_below, most_below, ahead, foremost, insert, listed, keep}
use Rattle.model.specs.Bits.{digit, bit_at, put_digit, put_bit, with_bits}
use Rattle.model.specs.Pattern.{exact_at, same_at, matches, parts, overlap, stray_in, first_stray, wildcards}
use Rattle.model.specs.Policy.{rule_at, before, rule_matches, rules_overlap, best, dependents}
use Rattle.model.specs.Isolate.{separates, chosen, rounds, fixed_by, isolated_at, isolate}
use Rattle.model.specs.Small.{row}
use Rattle.ternary.specs.Sizes.{key_size}
use Rattle.buffers.specs.BigEndian.{be}
use Rattle.buffers.specs.Parts.{splice, records_in, spelled}
use Rattle.records.specs.Rules.{decode_rule, rules}
use Rattle.checks.specs.Flaws.{rule_flaw}
use Rattle.checks.specs.Keys.{key_refusal}
use Rattle.checks.specs.Flawed.{first_flawed}
use Rattle.policy.specs.Refusals.{policy_refusal}
use Rattle.policy.specs.Best.{best_found}
use Rattle.policy.specs.Answers.{best_refusal}
use Rattle.policy.specs.BestAnswers.{best_answer}
use Rattle.cover.specs.Answers.{cover_refusal}
use Rattle.isolate.specs.Answers.{isolate_refusal, isolate_answer}
use Rattle.examples.specs.Cases.{small_rule, small_bytes, Case, best_case, output, cover_case, isolate_case, small_cases}

pub small_cases_lem : map (λ (c : Case). c.computed) small_cases ≡ map (λ (c : Case). c.expected) small_cases
unfolding all_below count_below most_below ahead foremost insert listed keep digit bit_at put_digit put_bit with_bits exact_at same_at matches
    parts overlap stray_in first_stray wildcards rule_at before rule_matches rules_overlap best dependents separates chosen rounds fixed_by
    isolated_at isolate row be splice records_in spelled decode_rule rules rule_flaw first_flawed policy_refusal key_refusal best_found
    best_refusal best_answer cover_refusal isolate_refusal isolate_answer small_rule small_bytes best_case output cover_case isolate_case
    small_cases
small_cases_lem = refl

-- the empty policy has no best rule for any key
pub empty-best : (key : List ℕ) → length key ≡ key_size → best_answer [] key ≡ Ok None
unfolding best_answer best_refusal policy_refusal key_refusal first_flawed foremost best_found rules records_in best
empty-best key l = rw (eq-eqb (length key) key_size l)
