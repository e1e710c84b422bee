-- `ternary::bits::wildcard_bits` meets its contract: the exact bits are no more than the positions. Assumes nothing.
use borrow.Author.Rules.{rules}
use Rattle.ternary.proofs.CountLaws.{exact-le, wildcards-rest}
use Rattle.ternary.proofs.bits.wildcard_bits.Goals as goal

pub overflow_sub-result : goal.overflow_sub-result
overflow_sub-result c = search (rules, exact-le)

pub returns : goal.returns
returns c = search (rules, wildcards-rest)
