-- How a policy is refused, in the order of the tests. Assumes nothing.
use Rattle.std.specs.Prelude.{◌≡◌, List, ℕ, ◌*◌, ◌<◌, length, Option}
use Rattle.model.specs.Policy.{Accepted}
use Rattle.ternary.specs.Sizes.{key_size}
use Rattle.buffers.specs.Parts.{chunk}
use Rattle.records.specs.Layout.{rule_size, most_rules}
use Rattle.records.specs.Rules.{rule_count, rules}
use Rattle.checks.specs.Flaws.{Zeros, rule_spares, rule_flaw}
use Rattle.checks.specs.declared.refusal.Refusal.{Refusal}
use Rattle.checks.specs.Flawed.{records_refusal}

-- policy 1, 2, 3
unfoldable pub policy_refusal : List ℕ → Option Refusal
policy_refusal bs = records_refusal (rule_size key_size) most_rules (rule_flaw key_size) bs

-- what the bytes of a policy that is not refused are: whole records, an accepted policy, zero bytes zero
pub record AcceptedBytes (bs : List ℕ) : Type 0 where
  pub whole : length bs ≡ rule_size key_size * rule_count key_size bs
  pub accepted : Accepted key_size most_rules (rules key_size bs)
  pub spare : (i : ℕ) → i < rule_count key_size bs → Zeros (rule_spares key_size) (chunk (rule_size key_size) bs i)
