use Rattle.area_check.proofs.Rows.{get_turn}
use Rattle.area_check.specs.Read.{port_of, no_ports}
use lib.ListN.{length, length-set}
use native.Mathlib.Omega.{arith}
use Prim.Native.Nat.{◌<◌}
use mathlib.Core.Path.{◌≡◌, refl, ◌∙◌}
use Rattle.area.proofs.get_ports.Goals as goal

long : length no_ports ≡ 7
unfolding no_ports
long = refl

pub loop-i-preserved : goal.loop-i-preserved
loop-i-preserved c = let i = c.loop-i.i in
    let below : i < length no_ports = omega (arith, long, c.requires) in
    (length-set c.loop-i.ports i c.port_of.result ∙ c.loop-i.invariant.0, get_turn port_of no_ports c.loop-i.ports _ c.args.rows.now i below c.loop-i-test.true c.loop-i.invariant.1 c.port_of.ensures)
