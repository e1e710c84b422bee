-- What a list by value has. Assumes nothing.
use Rattle.std.specs.Prelude.{List}

-- its items; and what its places past them hold
pub record ListOf (T : Type 0) : Type 0 where
  pub items : List T
  pub spare : List T
