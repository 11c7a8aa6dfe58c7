use Rattle.std.proofs.Common.{take}
use Rattle.std.specs.Prelude.{None}
use Rattle.buffer.specs.Buffer.{holds}
use Rattle.translator.specs.Search.{find}
use Rattle.translator.specs.Slots.{bare}
use Rattle.translator.proofs.Passes.{Ahead, finding}
use Rattle.translator.proofs.holder.Given as goal

abbrev pub invariant-loop-n : goal.invariant-loop-n
invariant-loop-n l = Ahead (finding l.key) l.slot-items (find (holds l.key) (take l.fn.count.0 (bare l.fn.slots))) l.n None
