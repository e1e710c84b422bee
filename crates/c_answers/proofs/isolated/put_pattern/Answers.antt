-- `c_answers::isolate_for_c::put_pattern` meets its contract: the mask follows the value. Assumes nothing.
use borrow.Author.Rules.{rules}
use mathlib.Core.Path.{◌≡◌, ◌∙◌}
use Rattle.ternary.specs.Sizes.{key_size}
use Rattle.buffers.specs.Parts.{splice}
use Rattle.buffers.proofs.PartLaws.{splice-next}
use Rattle.c_answers.proofs.isolated.put_pattern.Goals as goal

pub returns : goal.returns
returns c =
    let a = c.args in
    let p = a.pattern in
    let e : c.put_bytes-2.new.s ≡ splice key_size p.mask (splice 0 p.value a.out.now) = cc in
    e ∙ splice-next 0 key_size p.value p.mask a.out.now (search rules) (search rules)
