-- A policy is not refused where its bytes are those of an accepted policy, and in no other case. Assumes nothing.
use mathlib.Core.Path.{◌≡◌, refl, sym, ◌∙◌}
use mathlib.Core.List.{List}
use Rattle.std.specs.Prelude.{Option, None, Some}
use mathlib.Core.Logic.{◌↔◌}
use Prim.Native.Nat.{ℕ, ◌*◌, ◌%◌, ◌≤◌, ◌<◌}
use native.Mathlib.Omega.{arith}
use lib.ListN.{length}
use borrow.Author.Tests.{eqb-true, eq-eqb, ltb-false, le-ltb}
use Rattle.model.specs.Pattern.{canonical}
use Rattle.model.specs.Policy.{rule_at}
use Rattle.model.proofs.Cases.{not-true}
use Rattle.ternary.specs.Sizes.{key_size, positions}
use Rattle.buffers.specs.Parts.{part, chunk}
use Rattle.buffers.proofs.PartLaws.{part_length}
use Rattle.records.specs.Layout.{rule_value, rule_mask, rule_size, most_rules}
use Rattle.records.specs.Rules.{decode_rule, rule_count, rules}
use Rattle.records.proofs.RuleLaws.{rule-count, rule-at}
use Rattle.checks.specs.Flaws.{rule_flaw}
use Rattle.checks.specs.declared.flawed.Flawed.{Flawed}
use Rattle.checks.proofs.CleanLaws.{rule-clean}
use Rattle.checks.proofs.RefusalLaws.{need-none}
use Rattle.checks.specs.Flawed.{flaw_at, flaw_refusal}
use Rattle.checks.proofs.FlawedLaws.{all-clean}
use Rattle.policy.specs.Refusals.{policy_refusal, AcceptedBytes}

flaw-none : (x : Option Flawed) → flaw_refusal x ≡ None → x ≡ None
flaw-none None e = refl
flaw-none (Some flawed) e = let z : ◌≡◌ {A = ℕ} 0 1 = cc in absurd (omega arith)

-- the three tests pass
pub record Passes (bs : List ℕ) : Type 0 where
  pub whole : length bs % rule_size key_size ≡ 0
  pub few : rule_count key_size bs ≤ most_rules
  pub flawless : (i : ℕ) → i < rule_count key_size bs → rule_flaw key_size (chunk (rule_size key_size) bs i) ≡ None

pub refused-not : (bs : List ℕ) → policy_refusal bs ≡ None → Passes bs
unfolding policy_refusal
refused-not bs e =
    let a = need-none _ _ _ e in
    let b = need-none _ _ _ a.1 in
    record {
      whole = eqb-true _ _ a.0;
      few = ltb-false _ _ (not-true b.0);
      flawless = (all-clean (flaw_at (rule_flaw key_size) (rule_size key_size) bs) (rule_count key_size bs)).0 (flaw-none _ b.1);
    }

not-refused : (bs : List ℕ) → Passes bs → policy_refusal bs ≡ None
unfolding policy_refusal
not-refused bs p =
    rw (
      eq-eqb _ _ p.whole,
      le-ltb _ _ p.few,
      (all-clean (flaw_at (rule_flaw key_size) (rule_size key_size) bs) (rule_count key_size bs)).1 p.flawless,
    )

-- rule i of the policy, and its rows
module _ (bs : List ℕ) (i : ℕ) (l : i < rule_count key_size bs) where
  abbrev bytes : List ℕ
  bytes = chunk (rule_size key_size) bs i

  record-long : length bytes ≡ rule_size key_size
  record-long = part_length (rule_size key_size) (rule_size key_size * i) bs (omega arith)

  value_there : length (rule_at (rules key_size bs) i).value ≡ key_size
  unfolding decode_rule
  value_there = rw (rule-at key_size bs i l) (part_length key_size rule_value bytes (omega (arith, record-long)))

  mask-there : length (rule_at (rules key_size bs) i).mask ≡ key_size
  unfolding decode_rule
  mask-there = rw (rule-at key_size bs i l) (part_length key_size (rule_mask key_size) bytes (omega (arith, record-long)))

  rows-there : canonical positions (rule_at (rules key_size bs) i).value (rule_at (rules key_size bs) i).mask
      ≡ canonical positions (part key_size rule_value bytes) (part key_size (rule_mask key_size) bytes)
  unfolding decode_rule
  rows-there = rw (rule-at key_size bs i l)

passed-accepted : (bs : List ℕ) → Passes bs → AcceptedBytes bs
passed-accepted bs p =
    let n : length (rules key_size bs) ≡ rule_count key_size bs = rule-count key_size bs in
    record {
      whole = omega (arith, p.whole);
      accepted = record {
        few = omega (arith, n, p.few);
        value-long = λ i l. value_there bs i (rw n at l);
        mask-long = λ i l. mask-there bs i (rw n at l);
        clean = λ i l. rows-there bs i (rw n at l) ∙ ((rule-clean key_size _).0 (p.flawless i (rw n at l))).1;
      };
      spare = λ i l. ((rule-clean key_size _).0 (p.flawless i l)).0;
    }

accepted-passed : (bs : List ℕ) → AcceptedBytes bs → Passes bs
accepted-passed bs a =
    let n : length (rules key_size bs) ≡ rule_count key_size bs = rule-count key_size bs in
    record {
      whole = omega (arith, a.whole);
      few = omega (arith, n, a.accepted.few);
      flawless = λ i l. (rule-clean key_size _).1 (a.spare i l, sym (rows-there bs i l) ∙ a.accepted.clean i (rw n l));
    }

-- the check is `Accepted`, and nothing more or less
pub accepted-bytes : (bs : List ℕ) → (policy_refusal bs ≡ None) ↔ AcceptedBytes bs
accepted-bytes bs = (λ e. passed-accepted bs (refused-not bs e), λ a. not-refused bs (accepted-passed bs a))
