use Rattle.replay.proofs.Blocks.{part_is, run_fits, not_err, is_bad, good_passed, block_small, block_bad, block_good}
use Rattle.replay.proofs.Going.{zero_counts}
use native.Mathlib.Omega.{arith}
use Rattle.replay.proofs.replay_block.Goals as goal

pub returns-then-out-lt37444 : goal.returns-then-out-lt37444
returns-then-out-lt37444 c =
    let all = block_small c.args.hub c.args.place c.args.block.now c.args.out.now c.if-out-lt37444.true in
    record { value = all.0; out_after = all.1 }

pub returns-then-is_err : goal.returns-then-is_err
returns-then-is_err c =
    let bad = is_bad c.check-verdict.result c.is_err.ensures.value c.if-is_err.true in
    let all = block_bad c.args.hub c.args.place c.args.block.now c.args.out.now c.if-out-lt37444.false _ c.check-verdict.ensures
    _ bad (zero_counts c.default.ensures) in
    record { value = all.0; out_after = all.1 }

pub slice_bounds-run_records-end : goal.slice_bounds-run_records-end
slice_bounds-run_records-end c =
    let good = not_err c.check-verdict.result c.is_err.ensures.value c.if-is_err.false in
    let g = good_passed c.args.place c.args.block.now c.check-verdict.ensures good in
    omega (arith, g.few, g.long, c.count-end.ensures.0)

pub run_records-ran-requires : goal.run_records-ran-requires
run_records-ran-requires c =
    let good = not_err c.check-verdict.result c.is_err.ensures.value c.if-is_err.false in
    let g = good_passed c.args.place c.args.block.now c.check-verdict.ensures good in
    run_fits g (part_is c.args.block.now _ c.count-end.ensures.0) c.if-out-lt37444.false

pub returns : goal.returns
returns c =
    let good = not_err c.check-verdict.result c.is_err.ensures.value c.if-is_err.false in
    let u = part_is c.args.block.now _ c.count-end.ensures.0 in
    let all = block_good c.args.hub c.args.place c.args.block.now c.args.out.now c.if-out-lt37444.false _ c.check-verdict.ensures
    _ _ _ good u c.run_records-ran.ensures in
    record { value = all.0; out_after = all.1 }
