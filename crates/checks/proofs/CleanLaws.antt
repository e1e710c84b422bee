-- What a clean record is: its spare bytes are zero, and its value is 0 at every wildcard. For every width. Assumes nothing.
use mathlib.Core.Path.{◌≡◌, refl, ap}
use mathlib.Core.Bool.{true}
use mathlib.Core.List.{List, [], ◌∷◌}
use Rattle.std.specs.Prelude.{Option, None, Some, option_map}
use mathlib.Core.Logic.{◌↔◌}
use Prim.Native.Nat.{ℕ, ◌+◌, ◌*◌}
use native.Mathlib.Omega.{arith}
use lib.Dec.{eqb}
use lib.ListN.{get_or}
use borrow.Author.Tests.{eqb-true, eq-eqb}
use Rattle.model.specs.Pattern.{canonical}
use Rattle.model.proofs.Cases.{by_cases}
use Rattle.ternary.proofs.StrayLaws.{canonical-clean, clean-canonical}
use Rattle.buffers.specs.Parts.{part}
use Rattle.records.specs.Layout.{rule_value, rule_mask, write_value, write_mask}
use Rattle.checks.specs.Flaws.{Zeros, first_nonzero, stray_byte_in, flaw_of}
use Rattle.checks.specs.Flaws.{rule_spares, trace_spares, write_spares, report_spares, rule_flaw, trace_flaw, write_flaw, report_flaw}

zeros_of : (ats c : List ℕ) → first_nonzero ats c ≡ None → Zeros ats c
zeros_of [] c e = tt
zeros_of (at ∷ ats) c e =
    by_cases (eqb (get_or c at 0) 0)
    (λ z. (eqb-true _ _ z, zeros_of ats c (rw z at e)))
    (λ z. let n : Some at ≡ None = rw z at e in let z : ◌≡◌ {A = ℕ} 0 1 = cc in absurd (omega arith))

of-zeros : (ats c : List ℕ) → Zeros ats c → first_nonzero ats c ≡ None
of-zeros [] c h = refl
of-zeros (at ∷ ats) c h = rw (eq-eqb _ _ h.0) (of-zeros ats c h.1)

-- no flaw of either kind
neither : (a b : Option ℕ) → flaw_of a b ≡ None → (a ≡ None) × (b ≡ None)
neither (Some at) b e = let z : ◌≡◌ {A = ℕ} 0 1 = cc in absurd (omega arith)
neither None (Some at) e = let z : ◌≡◌ {A = ℕ} 0 1 = cc in absurd (omega arith)
neither None None e = (refl, refl)

none-mapped : (f : ℕ → ℕ) (o : Option ℕ) → option_map f o ≡ None → o ≡ None
none-mapped f None e = refl
none-mapped f (Some i) e = let z : ◌≡◌ {A = ℕ} 0 1 = cc in absurd (omega arith)

-- a record with spare bytes alone
spare-iff : (ats c : List ℕ) → (flaw_of (first_nonzero ats c) None ≡ None) ↔ Zeros ats c
spare-iff ats c =
    (λ e. zeros_of ats c (neither (first_nonzero ats c) None e).0, λ h. ap (λ (o : Option ℕ). flaw_of o None) (of-zeros ats c h))

-- a record with a pattern besides
pattern-iff : (w value mask : ℕ) (ats c : List ℕ)
    → (flaw_of (first_nonzero ats c) (stray_byte_in w value mask c) ≡ None)
    ↔ (Zeros ats c × (canonical (w * 8) (part w value c) (part w mask c) ≡ true))
pattern-iff w value mask ats c = (
  λ e. let n = neither (first_nonzero ats c) (stray_byte_in w value mask c) e in
      (zeros_of ats c n.0, canonical-clean w (part w value c) (part w mask c) (none-mapped (λ i. value + i) _ n.1)),
  λ h. rw (of-zeros ats c h.0, clean-canonical w (part w value c) (part w mask c) h.1),
)

pub rule-clean : (w : ℕ) (c : List ℕ)
    → (rule_flaw w c ≡ None) ↔ (Zeros (rule_spares w) c × (canonical (w * 8) (part w rule_value c) (part w (rule_mask w) c) ≡ true))
unfolding rule_flaw
rule-clean w c = pattern-iff w rule_value (rule_mask w) (rule_spares w) c

pub write-clean : (w : ℕ) (c : List ℕ)
    → (write_flaw w c ≡ None) ↔ (Zeros (write_spares w) c × (canonical (w * 8) (part w write_value c) (part w (write_mask w) c) ≡ true))
unfolding write_flaw
write-clean w c = pattern-iff w write_value (write_mask w) (write_spares w) c

pub trace-clean : (w : ℕ) (c : List ℕ) → (trace_flaw w c ≡ None) ↔ Zeros (trace_spares w) c
unfolding trace_flaw
trace-clean w c = spare-iff (trace_spares w) c

pub report-clean : (c : List ℕ) → (report_flaw c ≡ None) ↔ Zeros report_spares c
unfolding report_flaw
report-clean c = spare-iff report_spares c
