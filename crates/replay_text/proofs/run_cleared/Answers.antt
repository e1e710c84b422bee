-- `replay_text::run_cleared` meets its contract: both ends are lent as n cleared slots. Assumes nothing.
use borrow.Author.Rules.{rules}
use mathlib.Core.Path.{◌≡◌, sym}
use Rattle.ends.specs.Totals.{cleared_totals}
use Rattle.totals.specs.Sums.{as_totals}
use lib.Seq.{length-take-le}
use Rattle.replay_text.proofs.ClearedRun.{lent-end, ran-cleared}
use Rattle.replay_text.proofs.run_cleared.Goals as goal

pub slice_bounds-run-end : goal.slice_bounds-run-end
slice_bounds-run-end c = sym (length-take-le _ _ (search rules))

pub slice_bounds-run-end-2 : goal.slice_bounds-run-end-2
slice_bounds-run-end-2 c = sym (length-take-le _ _ (search rules))

pub returns : goal.returns
returns c =
    let n = c.args.n in
    let table = lent-end n c.cleared-table.result (search rules) c.cleared-table.ensures in
    let keeper = lent-end n c.cleared-keeper.result (search rules) c.cleared-keeper.ensures in
    let h = c.default.ensures in
    let z : as_totals c.default.result ≡ cleared_totals = rw (h.0, h.1.0, h.1.1.0, h.1.1.1.0, h.1.1.1.1) in
    ran-cleared n (search rules) (search rules) _ _ (search rules) table keeper (search rules) (rw z at c.run.ensures)
