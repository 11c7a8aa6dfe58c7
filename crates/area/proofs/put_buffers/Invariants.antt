use Rattle.area_check.proofs.Rows.{Put}
use Rattle.area.specs.Written.{buffer_bytes}
use lib.ListN.{length}
use Prim.Native.Nat.{◌*◌}
use mathlib.Core.Path.{◌≡◌}
use Rattle.area.proofs.put_buffers.Given as goal

abbrev pub invariant-loop-i : goal.invariant-loop-i
invariant-loop-i l = (length l.out ≡ length l.buffers * 72) × Put buffer_bytes 72 l.buffers l.initial.out l.out l.i
