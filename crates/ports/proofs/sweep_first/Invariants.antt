use Rattle.std.proofs.Common.{◌≡◌}
use Rattle.ports.specs.Sweep.{front, swept_by}
use Rattle.ports.proofs.sweep_first.Given as goal

abbrev pub invariant-loop-i : goal.invariant-loop-i
invariant-loop-i l = l.next ≡ front (swept_by l.what) l.i l.fn.ports
