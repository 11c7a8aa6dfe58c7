use Rattle.area_check.specs.Read.{port_of, no_ports}
use mathlib.Core.List.{◌++◌, map}
use lib.ListN.{length, take, drop}
use mathlib.Core.Path.{◌≡◌}
use Rattle.area.proofs.get_ports.Given as goal

abbrev pub invariant-loop-i : goal.invariant-loop-i
invariant-loop-i l = (length l.ports ≡ 7) × (l.ports ≡ map port_of (take l.i l.rows) ++ drop l.i no_ports)
