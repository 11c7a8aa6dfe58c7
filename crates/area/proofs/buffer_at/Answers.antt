use Rattle.area.proofs.Parts.{buffer_none, buffer_some}
use Rattle.area_check.specs.Read.{buffer_of}
use mathlib.Core.Path.{ap, ◌∙◌}
use Rattle.area.proofs.buffer_at.Goals as goal

pub returns : goal.returns
returns c = buffer_some _ _ c.in-Some.ensures.0 (c.buffer_of.ensures ∙ ap buffer_of c.in-Some.ensures.1)

pub returns-in_default : goal.returns-in_default
returns-in_default c = buffer_none _ _ c.in_default.ensures c.vacant.ensures
