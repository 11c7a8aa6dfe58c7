use Rattle.std.proofs.Common.{arith}
use Rattle.translator.proofs.Passes.{ended, finding_from, not_here, found_here}
use Rattle.translator.proofs.holder.Goals as goal

pub loop-n-init : goal.loop-n-init
loop-n-init c = finding_from _ _ _ c.used-slot-items.ensures

pub loop-n-preserved : goal.loop-n-preserved
loop-n-preserved c = not_here _ _ c.loop-n.invariant c.holds.ensures c.if-holds.false c.loop-n-test.true

pub returns-then-holds : goal.returns-then-holds
returns-then-holds c = found_here _ _ c.loop-n.invariant c.holds.ensures c.if-holds.true c.loop-n-test.true

pub returns : goal.returns
returns c = ended c.loop-n.invariant (omega (arith, c.loop-n-test.false))
