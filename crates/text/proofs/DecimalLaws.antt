-- Laws of decimals: they are what the library prints of a number. Assumes nothing.
use mathlib.Core.Path.{◌≡◌}
use mathlib.Core.List.{[], ◌∷◌, ◌++◌}
use Prim.Native.Nat.{ℕ, suc, ◌/◌, ◌%◌, ◌^◌, ◌<◌, ◌≤◌}
use native.Mathlib.Omega.{arith}
use borrow.Author.Tests.{lt-ltb, le-ltb}
use Rattle.std.specs.Fmt.{decimal as printed}
use Rattle.std.proofs.lemmas.Fmt.{decimal_from_appends, length-decimal-le}
use Rattle.text.specs.Decimal.{digit, decimal_in, decimal, most_digits}

-- a number of one digit
pub decimal-one : (k n : ℕ) → n < 10 → decimal_in (suc k) n ≡ digit n ∷ []
unfolding decimal_in
decimal-one k n l = rw (lt-ltb n 10 l)

-- a number of more digits: the digits of its tenth, and its last
pub decimal-more : (k n : ℕ) → 10 ≤ n → decimal_in (suc k) n ≡ decimal_in k (n / 10) ++ (digit (n % 10) ∷ [])
unfolding decimal_in
decimal-more k n l = rw (le-ltb n 10 l)

-- a decimal is what the library prints
pub decimal_is_printed : (n : ℕ) → n < 2 ^ 64 → decimal n ≡ printed n
decimal_is_printed n l =
    decimal_from_appends decimal_in (record { one = decimal-one; more = decimal-more }) most_digits n l
    (length-decimal-le most_digits n (omega arith) (omega arith) l)
