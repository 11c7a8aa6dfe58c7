use Rattle.std.proofs.Common.{take}
use Rattle.translator.specs.Slots.{bare}
use Rattle.translator.specs.Order.{sooner, earliest}
use Rattle.translator.proofs.Passes.{Ahead}
use Rattle.translator.proofs.earliest_of.Given as goal

abbrev pub invariant-loop-n : goal.invariant-loop-n
invariant-loop-n l = Ahead sooner l.slot-items (earliest (take l.fn.count.0 (bare l.fn.slots))) l.n l.sofar
