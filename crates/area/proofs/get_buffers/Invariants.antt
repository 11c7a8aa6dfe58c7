use Rattle.area_check.specs.Read.{buffer_of, no_buffers}
use mathlib.Core.List.{◌++◌, map}
use lib.ListN.{length, take, drop}
use mathlib.Core.Path.{◌≡◌}
use Rattle.area.proofs.get_buffers.Given as goal

abbrev pub invariant-loop-i : goal.invariant-loop-i
invariant-loop-i l = (length l.buffers ≡ 4) × (l.buffers ≡ map buffer_of (take l.i l.rows) ++ drop l.i no_buffers)
