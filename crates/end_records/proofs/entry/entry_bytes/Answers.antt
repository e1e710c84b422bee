-- `end_records::entry::entry_bytes` meets its contract: the four parts fill the record. Assumes nothing.
use borrow.Author.Rules.{rules}
use Prim.Native.Nat.{ℕ}
use mathlib.Core.List.{List}
use lib.ListN.{replicate}
use Rattle.buffers.proofs.PartLaws.{fill-four}
use Rattle.ternary.specs.Sizes.{key_size}
use Rattle.records.specs.Layout.{slot_value, slot_mask, slot_action, slot_size}
use Rattle.end_records.proofs.entry.entry_bytes.Goals as goal

pub returns : goal.returns
returns c =
    let a = c.args in
    let zeros : List ℕ = replicate (slot_size key_size) 0 in
    cc
    (fill-four a.head a.pattern.value a.pattern.mask a.tail zeros slot_value (slot_mask key_size) (slot_action key_size)
    (search rules) (search rules) (search rules) (search rules))
