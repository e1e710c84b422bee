-- The worked examples of the source documents, together, by computation. Assumes nothing.
use mathlib.Core.Path.{◌≡◌, refl}
use mathlib.Core.List.{map}
use Rattle.model.specs.Below.{all_below, most_below, ahead, foremost, insert, listed, keep}
use Rattle.model.specs.Bits.{digit, bit_at}
use Rattle.model.specs.Pattern.{exact_at, same_at, matches, parts, overlap}
use Rattle.model.specs.Policy.{rule_at, before, rule_matches, rules_overlap, best, dependents}
use Rattle.model.specs.Isolate.{separates, chosen, rounds, fixed_by}
use Rattle.model.specs.Small.{row, Case, cover_case}
use Rattle.examples.specs.Examples.{fix_case, top_rule, policy003, cases003}
use Rattle.examples.specs.Examples.{policy001, cases001, fields, zeros, to_port, to_network, policy002, packet_to, cases002, paper_cases}

pub paper-examples : map (λ (c : Case). c.computed) paper_cases ≡ map (λ (c : Case). c.expected) paper_cases
unfolding all_below most_below ahead foremost insert listed keep digit bit_at exact_at same_at matches parts overlap rule_at before
    rule_matches rules_overlap best dependents separates chosen rounds fixed_by row cover_case fix_case top_rule policy003 cases003 policy001
    cases001 fields zeros to_port to_network policy002 packet_to cases002 paper_cases
paper-examples = refl
