use Rattle.std.proofs.Common.{◌≡◌, length, ◌∙◌, arith, rules}
use Rattle.port.specs.Reaction.{new_port}
use Rattle.ports.specs.Sweep.{swept_by, swept}
use Rattle.ports.proofs.Front.{front_step, front_min}
use Rattle.ports.proofs.sweep_first.Goals as goal

pub loop-i-preserved : goal.loop-i-preserved
loop-i-preserved c =
    let n : length c.args.ports ≡ 7 = search rules in
    rw (c.step.ensures, c.loop-i.invariant, front_step (swept_by c.args.what) c.loop-i.i c.args.ports new_port (omega arith))

pub returns : goal.returns
unfolding swept
returns c =
    let n : length c.args.ports ≡ 7 = search rules in
    c.loop-i.invariant ∙ front_min (swept_by c.args.what) c.loop-i.i c.args.count.0 c.args.ports (omega arith)
