use Rattle.replay.proofs.Going.{zero_counts, read_at, going_fits, going_turn, turn_more, going_ends, going_end}
use native.Mathlib.Omega.{arith}
use Rattle.replay.proofs.run_records.Goals as goal

pub turn-ran-requires : goal.turn-ran-requires
turn-ran-requires c =
    going_fits c.requires (zero_counts c.default.ensures) c.loop-taken.invariant (read_at c.args.s.now c.loop-taken.ran.at c.read_record.ensures c.in-Some.is)

pub loop-taken-smaller : goal.loop-taken-smaller
loop-taken-smaller c =
    let z = zero_counts c.default.ensures in
    let was = c.loop-taken.invariant in
    let e = read_at c.args.s.now c.loop-taken.ran.at c.read_record.ensures c.in-Some.is in
    let t = c.turn-ran.ensures in
    omega (arith, (going_turn c.requires z was e t).inside, turn_more c.requires z was e t)

pub loop-taken-preserved : goal.loop-taken-preserved
loop-taken-preserved c =
    going_turn c.requires (zero_counts c.default.ensures) c.loop-taken.invariant (read_at c.args.s.now c.loop-taken.ran.at c.read_record.ensures c.in-Some.is)
    c.turn-ran.ensures

pub returns : goal.returns
returns c =
    let z = zero_counts c.default.ensures in
    let was = c.loop-taken.invariant in
    going_end c.requires z was (going_ends c.requires z was (read_at c.args.s.now c.loop-taken.ran.at c.read_record.ensures c.in_default.is))
