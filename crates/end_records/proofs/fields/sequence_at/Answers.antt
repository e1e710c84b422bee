-- `end_records::fields::sequence_at` meets its contract: the sequence lies in the slot's bytes. Assumes nothing.
use mathlib.Core.Path.{sym, ◌∙◌}
use Rattle.end_records.proofs.InPlace.{sequence-in-place}
use Rattle.end_records.proofs.fields.sequence_at.Goals as goal

pub returns : goal.returns
returns c = c.be32.ensures ∙ sym (sequence-in-place _ _ _ c.requires)
