-- `miss::decide::Ruled::fresh_entry` meets its contract: an entry is placed unless the last sequence is in use. Assumes nothing.
use native.Mathlib.Omega.{arith}
use Rattle.miss.proofs.DecideLaws.{used-up, not-used-up}
use Rattle.miss.proofs.decide.Ruled.fresh_entry.Goals as goal

pub returns-then-last : goal.returns-then-last
returns-then-last c =
    used-up _ _ _ c.args.self.now.ruled c.args.self.now.whole c.largest_sequence-last.ensures c.if-last.true c.no_write.ensures

pub new_entry-requires : goal.new_entry-requires
new_entry-requires c =
    omega (arith, c.largest_sequence-last.ensures)

pub returns : goal.returns
returns c = not-used-up _ _ _ c.largest_sequence-last.ensures c.if-last.false c.new_entry.ensures
