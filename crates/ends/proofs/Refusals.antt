-- What is known of a message that an end's tests do not refuse. Assumes nothing.
use mathlib.Core.Path.{◌≡◌, refl}
use mathlib.Core.Bool.{Bool, true, false, not}
use mathlib.Core.List.{List}
use Rattle.std.specs.Prelude.{Option, None}
use Prim.Native.Nat.{ℕ, ◌<◌}
use native.Mathlib.Omega.{arith}
use lib.Dec.{leb, eqb}
use lib.ListN.{length}
use borrow.Author.Tests.{leb-false, eqb-false}
use Rattle.model.specs.Pattern.{canonical}
use Rattle.model.proofs.Cases.{not-false}
use Rattle.ends.specs.Records.{Slot, Write, Report}
use Rattle.ends.specs.Ends.{refuse, write_refusal, report_refusal}

-- a test does not refuse, and neither do the later ones
unrefused : (b : Bool) (r : ℕ) (later : Option ℕ) → refuse b r later ≡ None → (b ≡ false) × (later ≡ None)
unrefused true r later e = let z : ◌≡◌ {A = ℕ} 0 1 = cc in absurd (omega arith)
unrefused false r later e = (refl, e)

-- a write has its value 0 at every wildcard, is for a slot that is there, and has a sequence
pub write-taken : (n : ℕ) (t : List Slot) (x : Write) → write_refusal n t x ≡ None
    → (canonical n x.value x.mask ≡ true) × (x.slot < length t) × (0 < x.sequence)
unfolding write_refusal
write-taken n t x e =
    let clean = unrefused (not (canonical n x.value x.mask)) _ _ e in
    let there = unrefused (leb (length t) x.slot) _ _ clean.1 in
    let live = unrefused (eqb x.sequence 0) _ None there.1 in
    (not-false clean.0, leb-false (length t) x.slot there.0, omega (arith, eqb-false x.sequence 0 live.0))

-- a report is of a slot that is there
pub report-there : (k : List Slot) (x : Report) → report_refusal k x ≡ None → x.slot < length k
unfolding report_refusal
report-there k x e = leb-false (length k) x.slot (unrefused (leb (length k) x.slot) _ _ e).0
