-- What is asked of a write that may be given. Assumes nothing.
use mathlib.Core.Path.{◌≡◌, sym, ◌∙◌}
use Rattle.std.specs.Prelude.{None, Some, Option}
use Rattle.std.specs.Option.{ForSome}
use Rattle.std.proofs.lemmas.Option.{same_Some}
use Prim.Native.Nat.{ℕ, ◌<◌}
use Rattle.model.proofs.Cases.{none-some}
use Rattle.end_records.specs.declared.write.Write.{Write as WriteStruct}

-- of a write that is not given nothing is asked
pub none-inside : {o : Option WriteStruct} {n : ℕ} → o ≡ None → ForSome o (λ w. w.slot < n)
none-inside e w t = none-some (sym e ∙ t)

pub some-inside : {o : Option WriteStruct} {g : WriteStruct} {n : ℕ} → o ≡ Some g → g.slot < n → ForSome o (λ w. w.slot < n)
some-inside {o} {g} e l w t = rw (← same_Some g w (sym e ∙ t)) l
