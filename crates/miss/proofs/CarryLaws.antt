-- An entry placed, and each way out of carrying a decision out. Assumes nothing.
use mathlib.Core.Path.{◌≡◌}
use mathlib.Core.Bool.{true}
use mathlib.Core.List.{List}
use mathlib.Core.Logic.{◌≢◌}
use Prim.Native.Nat.{ℕ}
use Rattle.ends.specs.Records.{Slot, Write}
use Rattle.records.specs.Outcomes.{gives_write, gives_new_entry}
use Rattle.records.proofs.OutcomeLaws.{gives-places, again-places}
use Rattle.slots.specs.Puts.{EntryPut}
use Rattle.miss.specs.Carry.{NewEntryPut}

-- ---- the entry of a write

module _ (keeper : List ℕ) (outcome : ℕ) (w : Write) (gives : gives_write outcome ≡ true) where
  pub entry-placed : {s : Slot} {keeper' : List ℕ} → outcome ≢ 5 → EntryPut keeper w s keeper' → NewEntryPut outcome w keeper keeper'
  entry-placed n p =
      let placed : gives_new_entry outcome ≡ true = gives-places outcome gives n in
      record { keeper-after = rw (placed, ← p.slot) p.put.bytes; meaning = rw (placed, ← p.slot) p.put.meaning }

  pub entry-left : outcome ≡ 5 → NewEntryPut outcome w keeper keeper
  entry-left e = record { keeper-after = rw (again-places outcome e); meaning = rw (again-places outcome e) }
