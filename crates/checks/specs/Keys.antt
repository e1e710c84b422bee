-- How a key is refused. Assumes nothing.
use Rattle.std.specs.Prelude.{List, ℕ, eqb, length, Option, None}
use Rattle.checks.specs.declared.refusal.Refusal.TheVariants.{Ragged}
use Rattle.ternary.specs.Sizes.{key_size}
use Rattle.checks.specs.Refusals.{need}
use Rattle.checks.specs.declared.refusal.Refusal.{Refusal}

-- key 1
unfoldable pub key_refusal : List ℕ → Option Refusal
key_refusal key = need (eqb (length key) key_size) Ragged None
