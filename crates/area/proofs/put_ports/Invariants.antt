use Rattle.area_check.proofs.Rows.{Put}
use Rattle.area.specs.Written.{port_bytes}
use lib.ListN.{length}
use Prim.Native.Nat.{◌*◌}
use mathlib.Core.Path.{◌≡◌}
use Rattle.area.proofs.put_ports.Given as goal

abbrev pub invariant-loop-i : goal.invariant-loop-i
invariant-loop-i l = (length l.out ≡ length l.ports * 4) × Put port_bytes 4 l.ports l.initial.out l.out l.i
