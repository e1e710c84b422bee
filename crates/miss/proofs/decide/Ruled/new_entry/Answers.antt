-- `miss::decide::Ruled::new_entry` meets its contract: the isolated rule goes to the slot for a new entry, under the sequence. Assumes nothing.
use mathlib.Core.Path.{refl}
use native.Mathlib.Omega.{arith}
use Rattle.miss.proofs.DecideLaws.{slot-inside, entry-decided}
use Rattle.miss.proofs.decide.Ruled.new_entry.Goals as goal

pub isolate_best-isolated-requires : goal.isolate_best-isolated-requires
isolate_best-isolated-requires c = rw c.from.ensures c.args.self.now.ruled.ready

pub entry_outcome-requires : goal.entry_outcome-requires
entry_outcome-requires c =
    let a = c.args.self.now in
    (slot-inside a.policy.now a.key.now _ a.whole c.slot_for_entry-i.ensures, a.whole.few-there)

pub overflow_cast-result : goal.overflow_cast-result
overflow_cast-result c =
    let a = c.args.self.now in
    omega (arith, slot-inside a.policy.now a.key.now a.keeper.now a.whole c.slot_for_entry-i.ensures, a.whole.few-there)

pub returns : goal.returns
returns c =
    let a = c.args.self.now in
    entry-decided _ _ _ a.ruled a.whole c.requires c.from.ensures c.isolate_best-isolated.ensures c.slot_for_entry-i.ensures
    c.entry_outcome.ensures refl refl
