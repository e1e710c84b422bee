-- `run::steps::step` meets its contract: the packet's key, the packet, its outcome's bytes and its totals. Assumes nothing.
use Rattle.run.proofs.StepLaws.{step-fine, stepped}
use Rattle.run.proofs.steps.step.Goals as goal

-- it stands first, so that a step of another packet fails here
pub returns : goal.returns
returns c =
    let p = c.requires in
    stepped p.0 p.1 c.key_at-key.ensures c.one_packet-x.ensures c.put_outcome.ensures c.advanced.ensures

pub one_packet-x-requires : goal.one_packet-x-requires
one_packet-x-requires c =
    let p = c.requires in
    step-fine p.0 p.1 c.key_at-key.ensures
