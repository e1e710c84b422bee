-- `miss::decide::Ruled::with_rule` meets its contract: a slot that takes the key, or a fresh entry. Assumes nothing.
use Rattle.miss.proofs.DecideLaws.{held, held-inside, not-held}
use Rattle.miss.proofs.decide.Ruled.with_rule.Goals as goal

pub write_again-requires : goal.write_again-requires
write_again-requires c =
    let a = c.args.self.now in
    (held-inside a.policy.now a.key.now a.keeper.now c.first_slot_for.ensures c.in-Some.is, c.args.self.now.whole.few-there)

pub returns-in-Some : goal.returns-in-Some
returns-in-Some c =
    let a = c.args.self.now in
    held a.policy.now a.key.now a.keeper.now a.best.number c.first_slot_for.ensures c.in-Some.is
    (c.write_again.ensures a.policy.now)

pub returns-in-None : goal.returns-in-None
returns-in-None c =
    let a = c.args.self.now in
    not-held a.policy.now a.key.now a.keeper.now a.best.number c.first_slot_for.ensures c.in-None.is
    c.fresh_entry.ensures
