use Rattle.area_check.proofs.Sized.{taken_sized}
use Rattle.area.proofs.Area.{read_taken, read_not}
use mathlib.Core.Path.{sym, ◌∙◌}
use Rattle.area.proofs.read_area.Goals as goal

pub decode-requires : goal.decode-requires
decode-requires c = let z = taken_sized _ (sym c.is_area.ensures ∙ c.if-not-is_area.false) in
    (z.head, z.seven, z.four, z.whole)

pub returns : goal.returns
returns c = read_taken _ _ c.is_area.ensures _ c.decode.ensures c.if-not-is_area.false

pub returns-then-not-is_area : goal.returns-then-not-is_area
returns-then-not-is_area c = read_not _ _ c.is_area.ensures c.if-not-is_area.true
