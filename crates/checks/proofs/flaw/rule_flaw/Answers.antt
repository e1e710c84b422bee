-- `checks::flaw::rule_flaw` meets its contract: a spare byte is told before a value bit. Assumes nothing.
use mathlib.Core.Path.{◌∙◌}
use Rattle.ternary.specs.Sizes.{key_size}
use Rattle.records.specs.Layout.{rule_value, rule_mask}
use Rattle.checks.specs.Flaws.{first_nonzero, stray_byte_in, rule_spares, rule_flaw}
use Rattle.checks.proofs.FlawLaws.{spare-first}
use Rattle.checks.proofs.flaw.rule_flaw.Goals as goal

pub returns : goal.returns
unfolding rule_flaw
returns c =
    let r = c.args.r.now in
    c.or.ensures
    ∙ rw (c.spare_flaw-spare.ensures, c.stray_flaw.ensures)
    (spare-first (first_nonzero (rule_spares key_size) r) (stray_byte_in key_size rule_value (rule_mask key_size) r))
