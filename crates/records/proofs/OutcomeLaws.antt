-- Laws of outcomes. Assumes nothing.
use Prim.Native.Nat.{ℕ, ◌+◌, ◌<◌}
use Rattle.std.specs.Prelude.{None, Some}
use mathlib.Core.Path.{◌≡◌, refl, sym}
use mathlib.Core.Bool.{true, false, ◌||◌}
use mathlib.Core.Logic.{◌≢◌}
use mathlib.Core.List.{List}
use native.Mathlib.Omega.{arith}
use lib.Dec.{eqb}
use lib.ListN.{length, get_or}
use borrow.Author.Tests.{ne_eqb, eqb-true}
use Rattle.model.specs.Bits.{Bytes}
use Rattle.model.proofs.Cases.{by_cases, clash, neither_left, neither_right}
use Rattle.ends.specs.Records.{Outcome}
use Rattle.ends.specs.Trace.{nothing}
use Rattle.buffers.proofs.BigEndianLaws.{be-to_be}
use Rattle.buffers.proofs.FieldLaws.{number-then, pair_then, pair-last}
use Rattle.records.specs.Layout.{outcome_kind, outcome_zero, outcome_action, outcome_rule, outcome_slot, outcome_evicted, outcome_spare, outcome_size}
use Rattle.records.specs.Outcomes.{decode_outcome, encode_outcome, OutcomeFits, gives_write, gives_new_entry}
use Rattle.records.specs.Outcomes.{or_nothing, unless_nothing, as_outcome, as_struct}

pub length-outcome : (x : Outcome) → length (encode_outcome x) ≡ outcome_size
unfolding encode_outcome
length-outcome x = refl

-- what was encoded is decoded
pub decode-encode-outcome : (x : Outcome) → OutcomeFits x → decode_outcome (encode_outcome x) ≡ x
unfolding decode_outcome encode_outcome
decode-encode-outcome x f =
    rw (
      be-to_be 2 x.action f.action-fits,
      be-to_be 2 x.rule f.rule_fits,
      be-to_be 2 x.slot f.slot-fits,
      be-to_be 2 x.evicted f.evicted-fits,
    )

-- what was decoded is encoded, where the zero bytes are zero
pub encode-decode-outcome : (c : List ℕ) → length c ≡ outcome_size → Bytes c
    → get_or c outcome_zero 0 ≡ 0 → get_or c outcome_spare 0 ≡ 0 → get_or c (outcome_spare + 1) 0 ≡ 0
    → encode_outcome (decode_outcome c) ≡ c
unfolding decode_outcome encode_outcome
encode-decode-outcome c l h z y x =
    pair_then c outcome_kind refl z (omega arith)
    (number-then c 2 outcome_action h (omega arith)
    (number-then c 2 outcome_rule h (omega arith)
    (number-then c 2 outcome_slot h (omega arith)
    (number-then c 2 outcome_evicted h (omega arith)
    (pair-last c outcome_spare y x (omega arith))))))

-- ---- no rule, no slot and no evicted rule

-- a number is read as what it tells of
pub told_number : (n : ℕ) → or_nothing (unless_nothing n) ≡ n
unfolding unless_nothing
told_number n = by_cases (eqb n nothing) (λ t. rw t (sym (eqb-true n nothing t))) (λ f. rw f)

-- the number of a rule or a slot is not 65,535
pub some-number : (n : ℕ) → n < nothing → unless_nothing n ≡ Some n
unfolding unless_nothing
some-number n l = rw (ne_eqb n nothing (λ t. omega (arith, l, t)))

pub nothing-none : unless_nothing nothing ≡ None
unfolding unless_nothing
nothing-none = refl

pub as-outcome-struct : (x : Outcome) → as_outcome (as_struct x) ≡ x
as-outcome-struct x = rw (told_number x.rule, told_number x.slot, told_number x.evicted)

-- ---- which outcomes give a write, and which place its entry

-- without a write no entry is placed
pub quiet-places : (o : ℕ) → gives_write o ≡ false → gives_new_entry o ≡ false
unfolding gives_write gives_new_entry
quiet-places o g =
    let rest = neither_right (eqb o 2) (eqb o 3 || eqb o 5) g in
    rw (neither_left (eqb o 2) (eqb o 3 || eqb o 5) g, neither_left (eqb o 3) (eqb o 5) rest)

-- a write that is not given again is of a new entry
pub gives-places : (o : ℕ) → gives_write o ≡ true → o ≢ 5 → gives_new_entry o ≡ true
unfolding gives_write gives_new_entry
gives-places o g n =
    by_cases (eqb o 2)
    (λ t. rw t)
    (λ f. by_cases (eqb o 3) (λ t. rw (f, t)) (λ e. clash g (rw (f, e, ne_eqb o 5 n))))

pub again-places : (o : ℕ) → o ≡ 5 → gives_new_entry o ≡ false
unfolding gives_new_entry
again-places o e = rw e
