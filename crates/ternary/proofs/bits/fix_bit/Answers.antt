-- `ternary::bits::fix_bit` meets its contract: one byte of each row is stored, and of that byte one bit is new. Assumes nothing.
use borrow.Author.Rules.{rules}
use Rattle.ternary.proofs.ByteLaws.{bytes_of}
use Rattle.ternary.proofs.StoreLaws.{put-merged, put-raised}
use Rattle.ternary.proofs.bits.fix_bit.Goals as goal

pub returns : goal.returns
returns c = record {
  value-put = put-merged _ _ (bytes_of _ (λ i. search rules)) _ (bytes_of _ (λ i. search rules));
  mask-put = put-raised _ _ (bytes_of _ (λ i. search rules));
}
