-- `end_records::fields::hits_at` meets its contract: the hits lie in the slot's bytes. Assumes nothing.
use mathlib.Core.Path.{sym, ◌∙◌}
use Rattle.end_records.proofs.InPlace.{hits-in-place}
use Rattle.end_records.proofs.fields.hits_at.Goals as goal

pub returns : goal.returns
returns c = c.be32.ensures ∙ sym (hits-in-place _ _ _ c.requires)
