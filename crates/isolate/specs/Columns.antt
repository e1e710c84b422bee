-- What a byte of the key separates, as bits of bytes. Assumes nothing.
use Rattle.std.specs.Prelude.{◌≡◌, Bool, not, ◌&&◌, List, ℕ, ◌+◌, ◌*◌, ◌<◌, eqb, length, get_or}
use Rattle.model.specs.Below.{keep}
use Rattle.model.specs.Bits.{bit_of}
use Rattle.model.specs.Policy.{Rule, rule_at}

-- the byte x has the bit at place q from its top
unfoldable pub bit_set : ℕ → ℕ → Bool
bit_set q x = eqb (bit_of x q) 1

-- x has the bits of byte b that are wildcards of rule i, and exact in rule d with a value that is not the key byte's
pub record Separating (pol : List Rule) (key i b d x : ℕ) : Type 0 where
  pub at : (q : ℕ) → q < 8
      → bit_set q x
      ≡ (not (bit_set q (get_or (rule_at pol i).mask b 0))
      && (bit_set q (get_or (rule_at pol d).mask b 0) && not (eqb (bit_of (get_or (rule_at pol d).value b 0) q) (bit_of key q))))

-- as many of the bytes have bit q as `sep` separates of xs at position q of byte b
pub record Marks (sep : ℕ → ℕ → Bool) (b : ℕ) (xs bytes : List ℕ) : Type 0 where
  pub each : (q : ℕ) → q < 8 → length (keep (bit_set q) bytes) ≡ length (keep (sep (b * 8 + q)) xs)
