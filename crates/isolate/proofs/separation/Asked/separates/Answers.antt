-- `isolate::separation::Asked::separates` meets its contract: the byte's bit at the position is taken. Assumes nothing.
use mathlib.Core.Path.{refl, ◌∙◌}
use Rattle.isolate.proofs.SeparateLaws.{separates-at, bit-taken}
use Rattle.isolate.proofs.separation.Asked.separates.Goals as goal

pub returns : goal.returns
returns c = bit-taken _ _ ∙ separates-at _ _ _ _ _ _ c.separating.ensures c.args.p refl
