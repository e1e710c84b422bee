-- Where no test refuses, and what an answer says of the tests. Assumes nothing.
use mathlib.Core.Path.{◌≡◌, refl}
use mathlib.Core.Bool.{Bool, true, false}
use mathlib.Core.List.{List}
use Rattle.std.specs.Prelude.{Option, None, Some, Result, Ok, Err, ⊤}
use Prim.Native.Nat.{ℕ}
use native.Mathlib.Omega.{arith}
use lib.Dec.{eqb}
use lib.ListN.{length}
use borrow.Author.Tests.{eqb-true}
use Rattle.checks.specs.declared.refusal.Refusal.TheVariants.{Ragged}
use Rattle.ternary.specs.Sizes.{key_size}
use Rattle.checks.specs.Refusals.{or_else, need, answer_of, verdict_of}
use Rattle.checks.specs.Keys.{key_refusal}
use Rattle.checks.specs.declared.refusal.Refusal.{Refusal}

-- neither of two
pub none_first : (o later : Option Refusal) → or_else o later ≡ None → (o ≡ None) × (later ≡ None)
none_first (Some x) later e = let z : ◌≡◌ {A = ℕ} 0 1 = cc in absurd (omega arith)
none_first None later e = (refl, e)

-- a first test alone
pub or-none : (o : Option Refusal) → or_else o None ≡ o
or-none (Some r) = refl
or-none None = refl

-- no refusal: the test passes, and the later ones do
pub need-none : (b : Bool) (refusal : Refusal) (later : Option Refusal) → need b refusal later ≡ None → (b ≡ true) × (later ≡ None)
need-none true refusal later e = (refl, e)
need-none false refusal later e = let z : ◌≡◌ {A = ℕ} 0 1 = cc in absurd (omega arith)

-- a key that is not refused has its length
pub key-accepted : (key : List ℕ) → key_refusal key ≡ None → length key ≡ key_size
unfolding key_refusal
key-accepted key e = eqb-true _ _ (need-none (eqb (length key) key_size) Ragged None e).0

-- what an answer says of the refusal that it tells
module _ {A : Type 0} where
  pub answer-refused : (o : Option Refusal) (x : A) {r : Refusal} {a : Result A Refusal} → a ≡ answer_of o x → a ≡ Err r → o ≡ Some r
  answer-refused (Some q) x e t = cc
  answer-refused None x e t = let z : ◌≡◌ {A = ℕ} 0 1 = cc in absurd (omega arith)

  pub answer-given : (o : Option Refusal) (x : A) {y : A} {a : Result A Refusal} → a ≡ answer_of o x → a ≡ Ok y → (o ≡ None) × (y ≡ x)
  answer-given (Some q) x e t = let z : ◌≡◌ {A = ℕ} 0 1 = cc in absurd (omega arith)
  answer-given None x e t = (refl, cc)

-- the same of a call that answers nothing more
pub verdict-refused : (o : Option Refusal) {r : Refusal} {a : Result ⊤ Refusal} → a ≡ verdict_of o → a ≡ Err r → o ≡ Some r
verdict-refused o e t = answer-refused o tt e t

pub verdict-fine : (o : Option Refusal) {a : Result ⊤ Refusal} → a ≡ verdict_of o → a ≡ Ok tt → o ≡ None
verdict-fine o e t = (answer-given o tt e t).0
