-- `isolate::separation::Asked::separating` meets its contract: the expression works on each bit apart. Assumes nothing.
use borrow.Author.Rules.{rules}
use Rattle.ternary.specs.Sizes.{key_size}
use Rattle.isolate.proofs.SeparateLaws.{separating-bits}
use Rattle.isolate.proofs.separation.Asked.separating.Goals as goal

pub returns : goal.returns
returns c = separating-bits key_size _ _ c.requires.0 _ _ c.args.self.now.low c.requires.1 _ (search rules)
