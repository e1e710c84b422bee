-- Rules: what a record of a policy means, and its bytes. Assumes nothing.
use Rattle.std.specs.Prelude.{ℕ, ◌/◌, ◌^◌, ◌<◌, ◌≡◌, List, [], ◌∷◌, ◌++◌, length}
use Rattle.model.specs.Policy.{Rule}
use Rattle.buffers.specs.BigEndian.{be, to_be}
use Rattle.buffers.specs.Parts.{part, chunk, records_in}
use Rattle.records.specs.Layout.{rule_value, rule_mask, rule_priority, rule_action, rule_size}

unfoldable pub decode_rule : ℕ → List ℕ → Rule
decode_rule w c =
    record {
      value = part w rule_value c;
      mask = part w (rule_mask w) c;
      priority = be (part 2 (rule_priority w) c);
      action = be (part 2 (rule_action w) c);
    }

unfoldable pub encode_rule : Rule → List ℕ
encode_rule r = r.value ++ (r.mask ++ (to_be 2 r.priority ++ (to_be 2 r.action ++ (0 ∷ 0 ∷ []))))

-- each field is one that its bytes can hold
pub record RuleFits (w : ℕ) (r : Rule) : Type 0 where
  pub value-long : length r.value ≡ w
  pub mask-long : length r.mask ≡ w
  pub priority-fits : r.priority < 2 ^ 16
  pub action-fits : r.action < 2 ^ 16

-- how many rules a policy holds, and its i-th rule
abbrev pub rule_count : ℕ → List ℕ → ℕ
rule_count w bs = length bs / rule_size w

abbrev pub rule_in : ℕ → List ℕ → ℕ → Rule
rule_in w bs i = decode_rule w (chunk (rule_size w) bs i)

-- the policy that a buffer holds
unfoldable pub rules : ℕ → List ℕ → List Rule
rules w bs = records_in (rule_size w) (decode_rule w) (rule_count w bs) bs
