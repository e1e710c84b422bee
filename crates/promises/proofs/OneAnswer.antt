-- One input admits one answer: each part of a result is told by one equation. Assumes nothing.
use mathlib.Core.Path.{◌≡◌, sym, ◌∙◌}
use Rattle.promises.specs.OneAnswer.{EquationLaw, EachSingle, EachExportSingle}

-- two things that one definition gives are equal
same {ℓ} : {A : Type ℓ} {x y d : A} → x ≡ d → y ≡ d → x ≡ y
same p q = p ∙ sym q

pub equation-single : EquationLaw
equation-single A B f a x y p q = same p q

two : {A B : Type 0} {x x' : A} {y y' : B} → x ≡ x' → y ≡ y' → ◌≡◌ {A = A × B} (x, y) (x', y')
two p q i = (p i, q i)

three : {A B C : Type 0} {x x' : A} {y y' : B} {z z' : C} → x ≡ x' → y ≡ y' → z ≡ z' → ◌≡◌ {A = A × B × C} (x, y, z) (x', y', z')
three p q r i = (p i, q i, r i)

pub each-single : EachSingle
each-single = record {
  checks = λ a x y p q. same p q;
  bests = λ a x y p q. same p q;
  records = λ a x y p q. same p q;
  record-answers = λ a x y p q. same p q;
  isolates = λ a x y p q. same p q;
  shows = λ a x y p q. same p q;
  show-answers = λ a x y p q. same p q;
  covers = λ a x y p q. two (same p.answer q.answer) (same p.out-after q.out-after);
  lookups = λ a x y p q. three (same p.answer q.answer) (same p.table-after q.table-after) (same p.out-after q.out-after);
  writes = λ a x y p q. three (same p.answer q.answer) (same p.table-after q.table-after) (same p.out-after q.out-after);
  misses = λ a x y p q. three (same p.answer q.answer) (same p.keeper-after q.keeper-after) (same p.out-after q.out-after);
  reports = λ a x y p q. two (same p.answer q.answer) (same p.keeper-after q.keeper-after);
  opens = λ a x y p q. two (same p.answer q.answer) (same p.out-after q.out-after);
  runs = λ policy trace table keeper out t r r' ta ke ou ta' ke' ou' p q. same p.whole q.whole;
}

pub each-export-single : EachExportSingle
each-export-single = record {
  checks = λ a x y p q. same p q;
  bests = λ a x y p q. same p q;
  records = λ a x y p q. same p q;
  shows = λ a x y p q. same p q;
  covers = λ a x y p q. two (same p.answer q.answer) (same p.out-after q.out-after);
  isolates = λ a x y p q. two (same p.answer q.answer) (same p.out-after q.out-after);
  lookups = λ a x y p q. three (same p.answer q.answer) (same p.table-after q.table-after) (same p.out-after q.out-after);
  writes = λ a x y p q. three (same p.answer q.answer) (same p.table-after q.table-after) (same p.out-after q.out-after);
  misses = λ a x y p q. three (same p.answer q.answer) (same p.keeper-after q.keeper-after) (same p.out-after q.out-after);
  reports = λ a x y p q. two (same p.answer q.answer) (same p.keeper-after q.keeper-after);
  opens = λ a x y p q. two (same p.answer q.answer) (same p.out-after q.out-after);
  runs = λ policy trace table keeper out t r r' u u' ta ke ou ta' ke' ou' p q. same p q;
}
