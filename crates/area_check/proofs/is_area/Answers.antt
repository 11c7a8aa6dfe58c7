use Rattle.area_check.proofs.Sized.{sized_to}
use mathlib.Core.Path.{sym, ◌∙◌}
use Rattle.area_check.proofs.is_area.Goals as goal

pub rows_fit-requires : goal.rows_fit-requires
rows_fit-requires c = let z = sized_to _ (sym c.is_sized.ensures ∙ c.if-is_sized.true) in
    (z.head, z.seven, z.two, z.four, z.whole)
