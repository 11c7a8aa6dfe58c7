use Rattle.area_check.proofs.Rows.{put_start, put_turn, put_length, part_size}
use Rattle.area.specs.Written.{buffer_bytes}
use native.Mathlib.Omega.{arith}
use Prim.Native.Nat.{◌+◌}
use mathlib.Core.Path.{◌∙◌}
use Rattle.area.proofs.put_buffers.Goals as goal

pub loop-i-init : goal.loop-i-init
loop-i-init c = (c.requires.1, put_start buffer_bytes 72 _ _)

pub loop-i-preserved : goal.loop-i-preserved
loop-i-preserved c = let xs = c.args.buffers.now in
    let i = c.loop-i.i in
    let call = c.put_buffer in
    let o₀ = c.args.out.now in
    let p = put_turn buffer_bytes 72 xs _ o₀ c.loop-i.out _ i c.loop-i-test.true call.ensures (call.auto.out ∙ part_size i _ 72 c.loop-i.out c.loop-i-test.true c.loop-i.invariant.0) c.loop-i.invariant.1 in
    (put_length buffer_bytes 72 xs o₀ _ (i + 1) (omega (arith, c.requires.1)) p ∙ c.requires.1, p)
