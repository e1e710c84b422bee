-- `slots::find::first_slot_for` meets its contract: the first slot that takes the key. Assumes nothing.
use mathlib.Core.Path.{◌≡◌}
use mathlib.Core.Bool.{true, false}
use Prim.Native.Nat.{ℕ}
use borrow.Author.Rules.{rules}
use borrow.Author.Tests.{tests}
use Rattle.std.proofs.lemmas.Iterator.{first_from_Range}
use Rattle.ternary.specs.Sizes.{key_size, positions}
use Rattle.ends.specs.Ends.{holds}
use Rattle.end_records.specs.Slots.{slots}
use Rattle.slots.proofs.FindLaws.{first-for-key}
use Rattle.slots.proofs.find.first_slot_for.Goals as goal

pub returns : goal.returns
returns c =
    let f = λ (i : ℕ). holds positions (slots key_size c.args.s.now) c.args.key.now i in
    first-for-key c.args.s.now c.args.key.now
    (first_from_Range _ c.find.new.self _ c.find.result (λ i. f i ≡ true) (λ i. f i ≡ false) c.find.ensures.ran
    (λ x q h. search (rules, tests)) (λ x q h. search (rules, tests)))
