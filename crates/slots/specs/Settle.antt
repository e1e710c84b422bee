-- What a report that is taken leaves in the keeper's buffer. Assumes nothing.
use Rattle.std.specs.Prelude.{◌≡◌, cond, List, ℕ}
use Rattle.ends.specs.Records.{Report, slot_at}
use Rattle.ends.specs.Ends.{is_current, confirmed, after_report}
use Rattle.ternary.specs.Sizes.{key_size}
use Rattle.end_records.specs.Slots.{slots, put_slot}

-- the keeper's bytes once a report is taken: those of one slot are replaced where it has the slot's sequence, else none
unfoldable pub report_bytes : List ℕ → Report → List ℕ
report_bytes keeper x =
    let k = slots key_size keeper in
    cond (is_current k x) (put_slot key_size keeper x.slot (confirmed (slot_at k x.slot) x.hits)) keeper

-- what it is to take a report: the keeper's bytes after it, and that their slots are as the model has them
pub record ReportTaken (keeper : List ℕ) (x : Report) (keeper' : List ℕ) : Type 0 where
  pub keeper-after : keeper' ≡ report_bytes keeper x
  pub meaning : slots key_size keeper' ≡ after_report (slots key_size keeper) x
