-- `checks::flaw::write_flaw` meets its contract: byte 1 is told before the last two, and these before a value bit. Assumes nothing.
use Rattle.ternary.specs.Sizes.{key_size}
use Rattle.records.specs.Layout.{write_zero, write_value, write_mask, write_spare}
use Rattle.checks.specs.Flaws.{first_nonzero, stray_byte_in, offsets, write_flaw}
use Rattle.checks.proofs.FlawLaws.{spare-first, lower-first}
use Rattle.checks.proofs.flaw.write_flaw.Goals as goal

pub returns : goal.returns
unfolding write_flaw
returns c =
    let r = c.args.r.now in
    let stray = stray_byte_in key_size write_value (write_mask key_size) r in
    let last = offsets (write_spare key_size) 2 in
    cc (spare-first (first_nonzero last r) stray, lower-first write_zero last r stray)
