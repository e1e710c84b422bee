-- How the bytes of a message are refused. Assumes nothing.
use Rattle.std.specs.Prelude.{not, List, ℕ, eqb, length, get_or, Option, None, is_some}
use Rattle.checks.specs.declared.flaw.Flaw.{Flaw}
use Rattle.checks.specs.declared.refusal.Refusal.{Refusal}
use Rattle.checks.specs.declared.refusal.Refusal.TheVariants.{Ragged, BadRecord, WrongKind}
use Rattle.checks.specs.Refusals.{need}

-- 1, 8, 3 of a message of that size and kind, whose first byte is its kind, and whose flaw `flaw` tells
abbrev pub message_refusal : ℕ → ℕ → (List ℕ → Option Flaw) → List ℕ → Option Refusal
message_refusal size kind flaw message =
    need (eqb (length message) size) Ragged
    (need (eqb (get_or message 0 0) kind) WrongKind (need (not (is_some (flaw message))) (BadRecord 0) None))
