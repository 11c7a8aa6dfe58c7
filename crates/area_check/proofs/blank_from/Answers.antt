use Rattle.area_check.proofs.Rows.{blank_turn, blank_end, blank_slice}
use Rattle.area_check.specs.Rows.{blank}
use mathlib.Core.Path.{ap, ◌∙◌}
use Rattle.area_check.proofs.blank_from.Goals as goal

pub loop-x-preserved : goal.loop-x-preserved
loop-x-preserved c = blank_turn _ _ _ c.loop-x-test.true c.loop-x.invariant

pub returns : goal.returns
returns c = blank_end _ _ _ c.loop-x-test.false c.loop-x.invariant ∙ ap blank (blank_slice c.args.b.now c.args.start c.min.result c.min.ensures)
