-- The report of a slot is one that a report's bytes can hold. Assumes nothing.
use Prim.Native.Nat.{ℕ, ◌<◌}
use native.Mathlib.Omega.{arith}
use Rattle.ends.specs.Records.{Slot, report_for}
use Rattle.ternary.specs.Sizes.{key_size}
use Rattle.records.specs.Layout.{most_slots}
use Rattle.end_records.proofs.ByteSlots.{ByteSlot}
use Rattle.end_records.specs.Reports.{ReportFits}

pub report-fits : (i : ℕ) (x : Slot) → i < most_slots → ByteSlot key_size x → ReportFits (report_for i x)
report-fits i x l b = record { slot-fits = omega arith; sequence-fits = b.fits.sequence-fits; hits-fits = b.fits.hits-fits }
