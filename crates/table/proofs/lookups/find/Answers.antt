-- `table::lookups::find` meets its contract: at each `return` the tests that led there say what it comes to. Assumes nothing.
use mathlib.Core.Path.{◌≡◌, refl}
use Rattle.std.proofs.lemmas.Result.{err_from_is_err_and}
use mathlib.Core.List.{List}
use Prim.Native.Nat.{ℕ}
use native.Mathlib.Omega.{arith}
use lib.ListN.{length, take}
use lib.Seq.{take_all}
use borrow.Author.Tests.{le-leb, lt-leb}
use Rattle.ternary.specs.Sizes.{key_size}
use Rattle.checks.proofs.RefusalLaws.{answer-refused, answer-given, key-accepted, verdict-refused, verdict-fine}
use Rattle.table.specs.Lookups.{lookup_refusal, find_answer}
use Rattle.table.proofs.lookups.find.Goals as goal

pub returns-in_err-check_key : goal.returns-in_err-check_key
unfolding find_answer lookup_refusal
returns-in_err-check_key c =
    let p = err_from_is_err_and c.from_residual.result c.from_residual.ensures.1 in
    rw (p.1, p.2, verdict-refused _ c.in_err-check_key.ensures refl)

pub returns-in_err-slot_count : goal.returns-in_err-slot_count
unfolding find_answer lookup_refusal
returns-in_err-slot_count c =
    let p = err_from_is_err_and c.from_residual-in_err-slot_count.result c.from_residual-in_err-slot_count.ensures.1 in
    rw (p.1, p.2, verdict-fine _ c.in_ok-check_key.ensures refl, answer-refused _ _ c.in_err-slot_count.ensures refl)

pub slice_bounds-all-end : goal.slice_bounds-all-end
slice_bounds-all-end c = let long = key-accepted _ (verdict-fine _ c.in_ok-check_key.ensures refl) in omega (arith, long)

-- the part of the key that is lent is all of it
all : (key : List ℕ) → length key ≡ key_size → take key_size key ≡ key
all key long = take_all key_size key (omega arith)

pub returns-in_default : goal.returns-in_default
unfolding find_answer lookup_refusal
returns-in_default c =
    let fine = verdict-fine _ c.in_ok-check_key.ensures refl in
    let long = key-accepted _ fine in
    rw (fine, (answer-given _ _ c.in_ok-slot_count.ensures refl).0, ← (rw (all _ long) at c.in_default.ensures))

pub returns-then-out_len-lt-REPORT_SIZE : goal.returns-then-out_len-lt-REPORT_SIZE
unfolding find_answer lookup_refusal
returns-then-out_len-lt-REPORT_SIZE c =
    let fine = verdict-fine _ c.in_ok-check_key.ensures refl in
    let long = key-accepted _ fine in
    rw (
      fine,
      (answer-given _ _ c.in_ok-slot_count.ensures refl).0,
      ← (rw (all _ long) at c.in-Some.ensures),
      lt-leb _ _ c.if-out_len-lt-REPORT_SIZE.true,
    )

pub returns : goal.returns
unfolding find_answer lookup_refusal
returns c =
    let fine = verdict-fine _ c.in_ok-check_key.ensures refl in
    let long = key-accepted _ fine in
    rw (
      fine,
      (answer-given _ _ c.in_ok-slot_count.ensures refl).0,
      ← (rw (all _ long) at c.in-Some.ensures),
      le-leb _ _ c.if-out_len-lt-REPORT_SIZE.false,
    )
