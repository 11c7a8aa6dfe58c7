use Rattle.std.proofs.Common.{◌≤◌, take}
use Rattle.translator.specs.Slots.{bare}
use Rattle.translator.specs.OnePass.{look, held_so_far, carried_by}
use Rattle.translator.proofs.Passes.{Ahead}
use Rattle.translator.proofs.Search.{looking}
use Rattle.translator.proofs.one_pass.Given as goal

abbrev pub invariant-loop-n : goal.invariant-loop-n
invariant-loop-n l =
    Ahead (looking l.key) l.slot-items (carried_by look l.key (take l.fn.count.0 (bare l.fn.slots))) l.n l.carried × (held_so_far l.carried ≤ l.n)
