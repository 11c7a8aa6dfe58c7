use Rattle.area.proofs.Parts.{slot_none, slot_some}
use Rattle.area_check.specs.Read.{slot_of}
use mathlib.Core.Path.{ap, ◌∙◌}
use Rattle.area.proofs.slot_at.Goals as goal

pub returns : goal.returns
returns c = slot_some _ _ c.in-Some.ensures.0 (c.slot_of.ensures ∙ ap slot_of c.in-Some.ensures.1)

pub returns-in_default : goal.returns-in_default
returns-in_default c = slot_none _ _ c.in_default.ensures
