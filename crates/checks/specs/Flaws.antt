-- What is wrong with a record: a spare byte that is not zero, or a value bit under a wildcard. Assumes nothing.
use Rattle.std.specs.Prelude.{◌≡◌, cond, List, [], ◌∷◌, ℕ, zero, suc, ◌+◌, eqb, get_or, Option, None, Some, option_map}
use Rattle.model.specs.Pattern.{first_stray}
use Rattle.buffers.specs.Parts.{part}
use Rattle.records.specs.Layout.{rule_value, rule_mask, rule_spare, trace_spare, write_zero, write_value, write_mask, write_spare, report_zero}
use Rattle.checks.specs.declared.flaw.Flaw.{Flaw}
use Rattle.checks.specs.declared.flaw.Flaw.TheVariants.{Spare, Stray}

-- the first of these bytes of the record that is not zero
abbrev pub first_nonzero : List ℕ → List ℕ → Option ℕ
first_nonzero [] c = None
first_nonzero (at ∷ ats) c = let later = first_nonzero ats c in cond (eqb (get_or c at 0) 0) later (Some at)

-- the n bytes from `at` on
abbrev pub offsets : ℕ → ℕ → List ℕ
offsets at zero = []
offsets at (suc n) = at ∷ offsets (at + 1) n

-- each of these bytes is zero
abbrev pub Zeros : List ℕ → List ℕ → Type 0
Zeros [] c = Unit {0}
Zeros (at ∷ ats) c = (get_or c at 0 ≡ 0) × Zeros ats c

-- the lowest byte of the record's value that has a bit under a wildcard, counted from the record's start
abbrev pub stray_byte_in : ℕ → ℕ → ℕ → List ℕ → Option ℕ
stray_byte_in w value mask c = option_map (λ i. value + i) (first_stray w (part w value c) (part w mask c))

-- the flaw that is told: a spare byte before a value bit
abbrev pub flaw_of : Option ℕ → Option ℕ → Option Flaw
flaw_of (Some at) stray = Some (Spare at)
flaw_of None (Some at) = Some (Stray at)
flaw_of None None = None

-- ---- the bytes that must be zero, rising

abbrev pub rule_spares : ℕ → List ℕ
rule_spares w = rule_spare w ∷ (rule_spare w + 1) ∷ []

abbrev pub trace_spares : ℕ → List ℕ
trace_spares w = trace_spare w ∷ (trace_spare w + 1) ∷ (trace_spare w + 2) ∷ []

abbrev pub write_spares : ℕ → List ℕ
write_spares w = write_zero ∷ write_spare w ∷ (write_spare w + 1) ∷ []

abbrev pub report_spares : List ℕ
report_spares = report_zero ∷ []

-- ---- the flaw of a record, if it has one

unfoldable pub rule_flaw : ℕ → List ℕ → Option Flaw
rule_flaw w c = flaw_of (first_nonzero (rule_spares w) c) (stray_byte_in w rule_value (rule_mask w) c)

unfoldable pub trace_flaw : ℕ → List ℕ → Option Flaw
trace_flaw w c = flaw_of (first_nonzero (trace_spares w) c) None

unfoldable pub write_flaw : ℕ → List ℕ → Option Flaw
write_flaw w c = flaw_of (first_nonzero (write_spares w) c) (stray_byte_in w write_value (write_mask w) c)

unfoldable pub report_flaw : List ℕ → Option Flaw
report_flaw c = flaw_of (first_nonzero report_spares c) None
