-- `ternary::bits::exact_bits` meets its contract: each byte has at most eight ones, and their sum is the count. Assumes nothing.
use borrow.Author.Rules.{rules}
use borrow.Author.Tests.{tests}
use mathlib.Core.Path.{◌≡◌, ◌∙◌}
use mathlib.Core.List.{map}
use native.Mathlib.Omega.{arith}
use lib.Count.{ones}
use Rattle.std.specs.List.{sum}
use Rattle.std.proofs.lemmas.Iterator.{YieldsList-from_slice}
use Rattle.std.proofs.lemmas.Iterator.Adapters.{fits_from_length, at_most_from_yields_List}
use Rattle.ternary.proofs.ByteLaws.{bytes_of}
use Rattle.ternary.proofs.CountLaws.{ones-sum}
use Rattle.ternary.specs.Sizes.{key_size, positions}
use Rattle.ternary.proofs.bits.exact_bits.Goals as goal

pub sum-requires-clause-fits : goal.sum-requires-clause-fits
sum-requires-clause-fits c =
    fits_from_length _ _ key_size _ (at_most_from_yields_List (YieldsList-from_slice c.args.mask cc) (search rules)) c.map.ensures.closure
    (omega arith) (λ x r q k. search (rules, tests))

pub returns : goal.returns
returns c =
    let e : c.sum.result ≡ sum (map ones c.args.mask) = search rules in
    e ∙ ones-sum positions c.args.mask (bytes_of _ (λ i. search rules)) (search rules)
