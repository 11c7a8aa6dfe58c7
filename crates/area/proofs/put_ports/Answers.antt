use Rattle.area_check.proofs.Rows.{put_start, put_turn, put_length}
use Rattle.area.specs.Written.{port_bytes}
use lib.ListN.{length}
use borrow.Author.Rules.{rules}
use native.Mathlib.Omega.{arith}
use Prim.Native.Nat.{◌+◌}
use mathlib.Core.Path.{◌≡◌, ap, ◌∙◌}
use Rattle.area.proofs.put_ports.Goals as goal

pub loop-i-init : goal.loop-i-init
loop-i-init c = (c.requires.1, put_start port_bytes 4 _ _)

pub loop-i-preserved : goal.loop-i-preserved
loop-i-preserved c = let xs = c.args.ports.now in
    let i = c.loop-i.i in
    let s : length c.port_bytes.result ≡ 4 = search rules in
    let f = c.copy_from_slice.ensures.after in
    let o₀ = c.args.out.now in
    let p = put_turn port_bytes 4 xs _ o₀ c.loop-i.out _ i c.loop-i-test.true (f ∙ c.port_bytes.ensures) (ap length f ∙ s) c.loop-i.invariant.1 in
    (put_length port_bytes 4 xs o₀ _ (i + 1) (omega (arith, c.requires.1)) p ∙ c.requires.1, p)
