-- A text at an output's start: one line, one line more, and what is lent of it. Assumes nothing.
use mathlib.Core.Path.{◌≡◌, sym, ap, ◌∙◌}
use mathlib.Core.List.{List, ◌++◌}
use Prim.Native.Nat.{ℕ, ◌+◌, ◌≤◌}
use native.Mathlib.Omega.{arith}
use lib.ListN.{length, take, drop, length-append}
use lib.Seq.{length-take-le}
use Rattle.buffers.specs.Parts.{splice}
use Rattle.buffers.proofs.PartLaws.{splice-next}
use Rattle.text.specs.Line.{line_size}
use Rattle.lines.specs.Listing.{TextPut}

-- one line at the start
pub line-alone : {text : List ℕ} {line out out' : List ℕ} {m : ℕ} → line ≡ text → out' ≡ splice 0 line out → m ≡ 0 + length line
    → TextPut text out m out'
line-alone s e n = record { whole = e ∙ rw s; count = omega (arith, ap length s) }

-- one line more
pub line_after : {front text line out out₁ out₂ : List ℕ} {at m : ℕ} → TextPut front out at out₁ → line ≡ text → out₂ ≡ splice at line out₁
    → m ≡ at + length line → m ≤ at + line_size → at + line_size ≤ length out → TextPut (front ++ text) out m out₂
line_after {front} {text} {line} {out} {out₁} {out₂} {at} p s e n short room =
    let next : splice at line out₁ ≡ splice at text (splice 0 front out) = rw (s, p.whole) in
    let long : length line ≡ length text = ap length s in
    record {
      whole = e ∙ next ∙ splice-next 0 at front text out (omega (arith, p.count)) (omega arith);
      count = simp length-append (omega (arith, p.count));
    }

-- the same text, said otherwise
pub same-put : {text text' out : List ℕ} {m : ℕ} {out' : List ℕ} → text ≡ text' → TextPut text out m out' → TextPut text' out m out'
same-put e p = record { whole = p.whole ∙ rw e; count = p.count ∙ rw e }

-- the text that was put is the output's first m bytes
pub counts : {text out : List ℕ} {m : ℕ} {out' : List ℕ} → TextPut text out m out' → (m ≤ length out') × (m ≡ length (take m out'))
unfolding splice
counts {text} {out} {m} {out'} p =
    let e : length out' ≡ length text + length (drop (0 + length text) out) =
    ap length p.whole ∙ length-append text (drop (0 + length text) out) in
    let l : m ≤ length out' = omega (arith, p.count) in
    (l, sym (length-take-le m out' l))
