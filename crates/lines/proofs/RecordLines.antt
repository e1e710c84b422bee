-- The lines of a run's output records, one after another. Assumes nothing.
use mathlib.Core.Path.{◌≡◌, refl, sym, ap, ◌∙◌}
use mathlib.Core.List.{List, [], ◌++◌}
use Prim.Native.Nat.{ℕ, ◌+◌, ◌-◌, ◌*◌, ◌≤◌, ◌<◌}
use native.Mathlib.Omega.{arith}
use lib.ListN.{length, take, drop, get_or, length-append, length-drop}
use lib.Seq.{length-take-le, take-take, drop-drop, take-append_seam, drop-append_seam}
use Rattle.std.proofs.lemmas.List.{drop-take}
use Rattle.ends.specs.Records.{Outcome}
use Rattle.buffers.specs.Parts.{splice, chunk, records_in}
use Rattle.buffers.proofs.RecordLaws.{records-count, records-at}
use Rattle.records.specs.Layout.{outcome_size}
use Rattle.records.specs.Outcomes.{decode_outcome}
use Rattle.text.specs.Line.{line_size}
use Rattle.lines.specs.Printed.{outcome_line}
use Rattle.lines.specs.Listing.{lines_in, TextPut}
use Rattle.lines.proofs.TextLaws.{Spelt, spelt-none, spelt-more, spelt-all}

-- the outcomes that the first n records tell
abbrev pub told : ℕ → List ℕ → List Outcome
told n records = records_in outcome_size decode_outcome n records

-- the lines of the first i of n records are written, and `rest` is what is left of the records
pub record Listed (n : ℕ) (records out₀ : List ℕ) (i : ℕ) (rest out : List ℕ) (at : ℕ) : Type 0 where
  pub left : rest ≡ drop (outcome_size * i) (take (outcome_size * n) records)
  pub spelt : Spelt outcome_line (told n records) out₀ i out at

module _ (n : ℕ) (records out₀ : List ℕ) (long : outcome_size * n ≤ length records) where
  count : length (told n records) ≡ n
  count = records-count outcome_size decode_outcome n records

  pub listed-none : Listed n records out₀ 0 (take (outcome_size * n) records) out₀ 0
  listed-none = record { left = refl; spelt = spelt-none _ _ _ }

  module _ {i at : ℕ} {rest out : List ℕ} (s : Listed n records out₀ i rest out at) where
    left-long : length rest ≡ outcome_size * n - outcome_size * i
    left-long = ap length s.left ∙ length-drop _ _ ∙ ap (λ (k : ℕ). k - outcome_size * i) (length-take-le (outcome_size * n) records long)

    module _ (x rest' : List ℕ) (cut : rest ≡ x ++ rest') (whole : length x ≡ outcome_size) where
      pub listed-below : i < n
      listed-below = omega (arith, left-long, ap length cut, length-append x rest')

      is-chunk : x ≡ chunk outcome_size records i
      is-chunk =
          let m = outcome_size * n - outcome_size * i in
          let e : outcome_size * i + m ≡ outcome_size * n = omega (arith, listed-below) in
          let left : rest ≡ take m (drop (outcome_size * i) records) =
          s.left ∙ ap (λ (k : ℕ). drop (outcome_size * i) (take k records)) (sym e) ∙ drop-take (outcome_size * i) m records
          in
          sym (take-append_seam x rest')
          ∙ ap (take (length x)) (sym cut ∙ left)
          ∙ ap (λ (k : ℕ). take k (take m (drop (outcome_size * i) records))) whole
          ∙ take-take outcome_size m (drop (outcome_size * i) records) (omega (arith, listed-below))

      left-less : rest' ≡ drop (outcome_size * (i + 1)) (take (outcome_size * n) records)
      left-less =
          let k : outcome_size * i + length x ≡ outcome_size * (i + 1) = omega arith in
          sym (drop-append_seam x rest')
          ∙ ap (drop (length x)) (sym cut ∙ s.left)
          ∙ drop-drop (length x) (outcome_size * i) (take (outcome_size * n) records)
          ∙ ap (λ (j : ℕ). drop j (take (outcome_size * n) records)) k

      pub listed-more : {line out' : List ℕ} {at' : ℕ} → line_size * n ≤ length out₀ → line ≡ outcome_line (decode_outcome x)
          → out' ≡ splice at line out → at' ≡ at + length line → at' ≤ at + line_size → Listed n records out₀ (i + 1) rest' out' at'
      listed-more {line} room a e m short =
          let d = decode_outcome [] in
          let r = records-at outcome_size decode_outcome d n records i listed-below in
          let says : line ≡ outcome_line (get_or (told n records) i d) = a ∙ rw (r, ← is-chunk) in
          record {
            left = left-less;
            spelt =
                spelt-more outcome_line (told n records) out₀ s.spelt d (omega (arith, count, listed-below)) (omega (arith, count)) says e m short;
          }

    pub listed-all : length rest < outcome_size → TextPut (lines_in n records) out₀ at out
    unfolding lines_in
    listed-all l =
        let all = spelt-all outcome_line (told n records) out₀ s.spelt (omega (arith, count, left-long)) in
        record { whole = all.0; count = all.1 }

    pub listed-short : at ≤ line_size * n
    listed-short = omega (arith, s.spelt.small, s.spelt.below, count)
