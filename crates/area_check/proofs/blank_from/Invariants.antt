use Rattle.area_check.specs.Rows.{blank}
use mathlib.Core.Bool.{◌&&◌}
use lib.Dec.{eqb}
use lib.ListN.{drop}
use mathlib.Core.Path.{◌≡◌}
use Rattle.area_check.proofs.blank_from.Given as goal

abbrev pub invariant-loop-x : goal.invariant-loop-x
invariant-loop-x l = blank l.x-items ≡ eqb l.all 0 && blank (drop l.x-index l.x-items)
