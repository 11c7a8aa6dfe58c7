use Rattle.replay.proofs.Turning.{there, turned}
use native.Mathlib.Omega.{arith}
use mathlib.Core.Path.{◌∙◌}
use Rattle.replay.proofs.turn.Goals as goal

pub overflow_add-start : goal.overflow_add-start
overflow_add-start c = let t = there {l = c.args.s.now} {at = c.args.ran.at} c.requires.there in omega (arith, t.parts, t.ends)

pub overflow_add-end : goal.overflow_add-end
overflow_add-end c = let t = there {l = c.args.s.now} {at = c.args.ran.at} c.requires.there in omega (arith, t.parts, t.ends)

pub slice_bounds-run_call-end : goal.slice_bounds-run_call-end
slice_bounds-run_call-end c = let t = there {l = c.args.s.now} {at = c.args.ran.at} c.requires.there in omega (arith, t.parts, t.ends)

pub overflow_add-result : goal.overflow_add-result
overflow_add-result c = omega (arith, (there {l = c.args.s.now} {at = c.args.ran.at} c.requires.there).ends, c.requires.used)

pub returns : goal.returns
returns c =
    turned c.args.out.now c.run_call-said.result c.requires c.run_call-said.ensures c.is_complete.ensures
    (c.from-before.ensures ∙ c.active.ensures.0, omega (arith, c.from-before.ensures, c.active.ensures.1))
    (c.from-after.ensures ∙ c.active-2.ensures.0, omega (arith, c.from-after.ensures, c.active-2.ensures.1))
    c.count_call-counts.ensures c.put_answer-n.ensures.value c.put_answer-n.ensures.out_after
