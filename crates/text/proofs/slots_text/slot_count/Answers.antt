-- `text::slots_text::slot_count` meets its contract: each return is a case of reading the text. Assumes nothing.
use Rattle.std.proofs.Common.{arith}
use Rattle.text.proofs.SlotsTextLaws.{too-long, no-newline, stripped, first-byte, value-of}
use Rattle.text.proofs.SlotsTextLaws.{fault-of, no-digit, no-text, no-number, too-large, a-number}
use Rattle.text.proofs.slots_text.slot_count.Goals as goal

-- a number is given
pub returns : goal.returns
returns c =
    let digits = stripped c.args.text.now c.strip_suffix.ensures.cases c.in_ok-digits.was in
    let utf8 = rw (value-of _ _ c.in_ok-ok.ensures.value) at c.from_utf8.ensures.cases in
    let first = rw c.in-Some-49-to-57.is at (first-byte _ _ c.first.ensures.value) in
    let number = value-of _ _ c.in_ok-n.ensures.value in
    a-number _ _ digits _ utf8.0 c.parse.ensures.value.0 _ number (omega (arith, first)) (omega (arith, first)) (omega arith)

pub returns-then-text-gt-MOST : goal.returns-then-text-gt-MOST
returns-then-text-gt-MOST c = too-long _ (omega arith)

pub returns-in_err-digits : goal.returns-in_err-digits
returns-in_err-digits c =
    rw c.from_residual.ensures (no-newline _ c.strip_suffix.ensures.cases c.in_err-digits.was)

pub returns-in_default : goal.returns-in_default
returns-in_default c =
    let digits = stripped c.args.text.now c.strip_suffix.ensures.cases c.in_ok-digits.was in
    let first = rw c.in_default.is at (first-byte _ _ c.first.ensures.value) in
    no-digit _ _ digits (λ l. grind arith)

pub returns-in_default-2 : goal.returns-in_default-2
returns-in_default-2 c =
    let digits = stripped c.args.text.now c.strip_suffix.ensures.cases c.in_ok-digits.was in
    let first = rw c.in_default.is at (first-byte _ _ c.first.ensures.value) in
    no-digit _ _ digits (λ l. grind arith)

pub returns-in_default-3 : goal.returns-in_default-3
returns-in_default-3 c =
    let digits = stripped c.args.text.now c.strip_suffix.ensures.cases c.in_ok-digits.was in
    let first = rw c.in_default.is at (first-byte _ _ c.first.ensures.value) in
    no-digit _ _ digits (λ l. omega arith)

pub returns-in_err-ok : goal.returns-in_err-ok
returns-in_err-ok c =
    let digits = stripped c.args.text.now c.strip_suffix.ensures.cases c.in_ok-digits.was in
    let fault = fault-of _ c.in_err-ok.ensures.value in
    let utf8 = rw fault.1 at c.from_utf8.ensures.cases in
    rw c.from_residual-in_err-ok.ensures (no-text _ _ digits utf8.0)

pub returns-in_err-n : goal.returns-in_err-n
returns-in_err-n c =
    let digits = stripped c.args.text.now c.strip_suffix.ensures.cases c.in_ok-digits.was in
    let utf8 = rw (value-of _ _ c.in_ok-ok.ensures.value) at c.from_utf8.ensures.cases in
    let fault = fault-of _ c.in_err-n.ensures.value in
    rw c.from_residual-in_err-n.ensures (no-number _ _ digits _ utf8.0 c.parse.ensures.value.0 fault.0 fault.1)

pub returns-then-n-gt-MOST_SLOTS : goal.returns-then-n-gt-MOST_SLOTS
returns-then-n-gt-MOST_SLOTS c =
    let digits = stripped c.args.text.now c.strip_suffix.ensures.cases c.in_ok-digits.was in
    let utf8 = rw (value-of _ _ c.in_ok-ok.ensures.value) at c.from_utf8.ensures.cases in
    let number = value-of _ _ c.in_ok-n.ensures.value in
    too-large _ _ digits _ utf8.0 c.parse.ensures.value.0 _ number (omega arith)
