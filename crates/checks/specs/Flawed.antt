-- The first record with a flaw. Assumes nothing.
use Rattle.std.specs.Prelude.{not, List, ℕ, ◌/◌, ◌%◌, ltb, eqb, length, Option, option_map, option_and_then, is_some}
use Rattle.model.specs.Below.{first_below}
use Rattle.buffers.specs.Parts.{chunk}
use Rattle.checks.specs.declared.flaw.Flaw.{Flaw}
use Rattle.checks.specs.declared.flawed.Flawed.{Flawed}
use Rattle.checks.specs.declared.refusal.Refusal.{Refusal}
use Rattle.checks.specs.declared.refusal.Refusal.TheVariants.{Ragged, TooMany, BadRecord}
use Rattle.checks.specs.Refusals.{need}

-- the record at that place, with its flaw
abbrev pub flawed_at : (ℕ → Option Flaw) → ℕ → Option Flawed
flawed_at flaw i = option_map (λ f. record { place = i; flaw = f }) (flaw i)

-- of n records, with the flaw of each
unfoldable pub first_flawed : (ℕ → Option Flaw) → ℕ → Option Flawed
first_flawed flaw n = option_and_then (flawed_at flaw) (first_below (λ i. is_some (flaw i)) n)

-- the flaw of the i-th record of that size, where `flaw` tells that of its bytes
abbrev pub flaw_at : (List ℕ → Option Flaw) → ℕ → List ℕ → ℕ → Option Flaw
flaw_at flaw size bs i = flaw (chunk size bs i)

-- 3, with the place of the first flawed record
abbrev pub flaw_refusal : Option Flawed → Option Refusal
flaw_refusal first = option_map (λ x. BadRecord x.place) first

-- 1, 2, 3 of records of that size, of which there may be so many, with the flaw of each
abbrev pub records_refusal : ℕ → ℕ → (List ℕ → Option Flaw) → List ℕ → Option Refusal
records_refusal size most flaw bs =
    need (eqb (length bs % size) 0) Ragged
    (need (not (ltb most (length bs / size))) TooMany (flaw_refusal (first_flawed (flaw_at flaw size bs) (length bs / size))))
