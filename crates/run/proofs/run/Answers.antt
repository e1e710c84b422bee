-- `run::run` meets its contract: a run that is not refused takes all its packets. Assumes nothing.
use borrow.Author.Rules.{rules}
use mathlib.Core.Path.{refl}
use Rattle.ternary.proofs.ByteLaws.{bytes_of}
use Rattle.checks.proofs.RefusalLaws.{verdict-fine}
use Rattle.run.proofs.RunLaws.{run_fits, run-refused, run_ran}
use Rattle.run.proofs.run.Goals as goal

pub returns-in-Err : goal.returns-in-Err
returns-in-Err c = run-refused _ _ _ _ _ _ c.check_run.ensures c.in-Err.is

pub all_packets-requires : goal.all_packets-requires
all_packets-requires c =
    run_fits _ _ _ _ _ _ (verdict-fine _ c.in-Ok.ensures refl)

pub returns-in-Ok : goal.returns-in-Ok
returns-in-Ok c =
    run_ran _ _ _ _ _ _ (verdict-fine _ c.in-Ok.ensures refl) c.all_packets.ensures (search rules) (bytes_of _ c.type_inv.table)
    (search rules) (bytes_of _ c.type_inv.keeper)
