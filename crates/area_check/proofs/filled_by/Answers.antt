use Rattle.area_check.proofs.Ties.{filled_is}
use mathlib.Core.Path.{sym, ◌∙◌}
use Rattle.area_check.proofs.filled_by.Goals as goal

pub returns-then-is_filled : goal.returns-then-is_filled
returns-then-is_filled c = c.is_from.ensures ∙ (rw (sym c.is_filled.ensures ∙ c.if-is_filled.true) at (filled_is c.args.lane c.args.b.now))

pub returns-else-is_filled : goal.returns-else-is_filled
returns-else-is_filled c = c.if-is_filled.false ∙ (rw (sym c.is_filled.ensures ∙ c.if-is_filled.false) at (filled_is c.args.lane c.args.b.now))
