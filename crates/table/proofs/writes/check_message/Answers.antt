-- `table::writes::check_message` meets its contract: at each `return` the tests that led there say which refusal it is. Assumes nothing.
use mathlib.Core.Path.{refl}
use native.Mathlib.Omega.{arith}
use Rattle.std.proofs.lemmas.Result.{err_from_is_err_and}
use borrow.Author.Tests.{eq-eqb, ne_eqb, lt-ltb, le-ltb}
use Rattle.checks.proofs.RefusalLaws.{verdict-refused, verdict-fine}
use Rattle.end_records.specs.Writes.{decode_write}
use Rattle.table.proofs.WriteLaws.{write-begins, write-long}
use Rattle.table.proofs.writes.check_message.Goals as goal

pub returns-in_err-check_message : goal.returns-in_err-check_message
returns-in_err-check_message c =
    let p = err_from_is_err_and c.from_residual.result c.from_residual.ensures.1 in
    rw (p.1, p.2, write-begins c.args.message.now c.args.count, verdict-refused _ c.in_err-check_message.ensures refl)

pub be16-requires : goal.be16-requires
be16-requires c = let long = write-long c.args.message.now (verdict-fine _ c.in_ok-check_message.ensures refl) in omega arith

pub be32-requires : goal.be32-requires
be32-requires c = let long = write-long c.args.message.now (verdict-fine _ c.in_ok-check_message.ensures refl) in omega arith

pub returns-then-count-from : goal.returns-then-count-from
unfolding decode_write
returns-then-count-from c =
    rw (
      write-begins c.args.message.now c.args.count,
      verdict-fine _ c.in_ok-check_message.ensures refl,
      ← c.be16.ensures,
      ← c.from.ensures,
      le-ltb _ _ c.if-count-from.true,
    )

pub returns-then-be32-eq0 : goal.returns-then-be32-eq0
unfolding decode_write
returns-then-be32-eq0 c =
    rw (
      write-begins c.args.message.now c.args.count,
      verdict-fine _ c.in_ok-check_message.ensures refl,
      ← c.be16.ensures,
      ← c.from.ensures,
      lt-ltb _ _ c.if-count-from.false,
      ← c.be32.ensures,
      eq-eqb _ _ c.if-be32-eq0.true,
    )

pub returns : goal.returns
unfolding decode_write
returns c =
    rw (
      write-begins c.args.message.now c.args.count,
      verdict-fine _ c.in_ok-check_message.ensures refl,
      ← c.be16.ensures,
      ← c.from.ensures,
      lt-ltb _ _ c.if-count-from.false,
      ← c.be32.ensures,
      ne_eqb _ _ c.if-be32-eq0.false,
    )
