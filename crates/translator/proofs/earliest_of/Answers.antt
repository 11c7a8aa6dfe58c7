use Rattle.std.proofs.Common.{arith}
use Rattle.translator.proofs.Passes.{onward, ended, seeking}
use Rattle.translator.proofs.earliest_of.Goals as goal

pub loop-n-init : goal.loop-n-init
loop-n-init c = seeking _ _ c.used-slot-items.ensures

pub loop-n-preserved : goal.loop-n-preserved
loop-n-preserved c = onward _ c.loop-n.invariant c.nearer-sofar.ensures c.loop-n-test.true

pub returns : goal.returns
returns c = ended c.loop-n.invariant (omega (arith, c.loop-n-test.false))
