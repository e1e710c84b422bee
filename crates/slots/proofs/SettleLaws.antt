-- What taking a report does. Assumes nothing.
use mathlib.Core.Path.{◌≡◌, sym, ◌∙◌}
use mathlib.Core.Bool.{true, false}
use mathlib.Core.List.{List}
use mathlib.Core.Logic.{◌≢◌}
use Prim.Native.Nat.{ℕ, ◌<◌}
use borrow.Author.Tests.{eq-eqb, ne_eqb}
use Rattle.ends.specs.Records.{Slot, Report, slot_at}
use Rattle.ends.specs.Ends.{is_current, confirmed, after_report}
use Rattle.ternary.specs.Sizes.{key_size}
use Rattle.end_records.specs.Slots.{slot_in, slots, SlotPut}
use Rattle.records.specs.SlotBuffers.{slot_count}
use Rattle.end_records.proofs.SlotLaws.{slot-at}
use Rattle.slots.specs.Settle.{report_bytes, ReportTaken}

module _ (keeper : List ℕ) (x : Report) where
  abbrev k : List Slot
  k = slots key_size keeper

  module _ {i : ℕ} (e : i ≡ x.slot) (l : i < slot_count key_size keeper) {old : Slot} (is : old ≡ slot_in key_size keeper i) where
    -- the slot that the report is of
    there : slot_at k x.slot ≡ old
    there = rw (← e) (slot-at key_size keeper i l ∙ sym is)

    pub taken-current : {y : Slot} {keeper' : List ℕ} → x.sequence ≡ old.sequence → y ≡ confirmed old x.hits
        → SlotPut key_size keeper i y keeper' → ReportTaken keeper x keeper'
    unfolding report_bytes after_report
    taken-current s c put =
        let t : is_current k x ≡ true = rw there (eq-eqb x.sequence old.sequence s) in
        record { keeper-after = rw (t, there, ← c, ← e) put.bytes; meaning = rw (t, there, ← c, ← e) put.meaning }

    pub taken-older : x.sequence ≢ old.sequence → ReportTaken keeper x keeper
    unfolding report_bytes after_report
    taken-older s =
        let t : is_current k x ≡ false = rw there (ne_eqb x.sequence old.sequence s) in
        record { keeper-after = rw t; meaning = rw t }
