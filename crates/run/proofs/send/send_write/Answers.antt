-- `run::send::send` meets its contract: the write is refused by the table, or taken, and then its report goes to the keeper. Assumes nothing.
use borrow.Author.Rules.{rules}
use Rattle.ternary.proofs.ByteLaws.{bytes_of}
use Rattle.ternary.specs.Sizes.{key_size}
use Rattle.end_records.specs.Writes.{WriteFits}
use Rattle.end_records.specs.MessageStructs.{as_write}
use mathlib.Core.Path.{◌≡◌, refl, sym}
use mathlib.Core.Bool.{true, false}
use Rattle.std.specs.Prelude.{Result, Ok, Err, ⊤, is_ok}
use Rattle.model.proofs.Cases.{clash}
use Rattle.checks.specs.declared.refusal.Refusal.{Refusal}
use Rattle.run.proofs.SendLaws.{sent-refused, sent-taken}
use Rattle.run.proofs.send.send_write.Goals as goal

-- what the table answered
taken : (r : Result ⊤ Refusal) → is_ok r ≡ true → r ≡ Ok tt
taken (Ok x) e = refl
taken (Err q) e = clash e refl

refused : (r : Result ⊤ Refusal) → is_ok r ≡ false → (q : Refusal) × (r ≡ Err q)
refused (Ok x) e = clash refl e
refused (Err q) e = (q, refl)

pub returns-then-is_ok : goal.returns-then-is_ok
returns-then-is_ok c =
    let fits : WriteFits key_size (as_write c.args.w) = search rules in
    sent-taken c.requires fits c.write_bytes-message.ensures (search rules) c.write.ensures (taken _ (sym c.if-is_ok.ensures.value))
    (search rules) (bytes_of _ c.type_inv.table) c.report.ensures

pub returns-else-is_ok : goal.returns-else-is_ok
returns-else-is_ok c =
    let fits : WriteFits key_size (as_write c.args.w) = search rules in
    sent-refused c.requires fits c.write_bytes-message.ensures (search rules) c.write.ensures
    (refused _ (sym c.if-is_ok.ensures.value)).1
