-- `slots::choose::first_empty` meets its contract: the first slot whose sequence is 0. Assumes nothing.
use borrow.Author.Rules.{rules}
use borrow.Author.Tests.{tests}
use mathlib.Core.Path.{◌≡◌}
use mathlib.Core.Bool.{true, false}
use Prim.Native.Nat.{ℕ}
use Rattle.std.proofs.lemmas.Iterator.{first_from_Range}
use Rattle.ends.specs.Records.{slot_at}
use Rattle.ends.specs.Ends.{is_empty}
use Rattle.ternary.specs.Sizes.{key_size}
use Rattle.end_records.specs.Slots.{slots}
use Rattle.slots.proofs.FindLaws.{first-slot}
use Rattle.slots.proofs.choose.first_empty.Goals as goal

pub returns : goal.returns
returns c =
    let f = λ (i : ℕ). is_empty (slot_at (slots key_size c.args.keeper.now) i) in
    first-slot c.args.keeper.now f
    (first_from_Range _ c.find.new.self _ c.find.result (λ i. f i ≡ true) (λ i. f i ≡ false) c.find.ensures.ran
    (λ x q h. search (rules, tests)) (λ x q h. search (rules, tests)))
