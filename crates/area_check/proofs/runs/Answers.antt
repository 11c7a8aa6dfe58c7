use Rattle.area_check.proofs.Ties.{runs_is, runs_none}
use borrow.Author.Tests.{eq-eqb, ne_eqb, le-ltb}
use mathlib.Core.Bool.{not}
use mathlib.Core.Path.{ap, ◌∙◌}
use Rattle.area_check.proofs.runs.Goals as goal

pub returns-then-low-ne1 : goal.returns-then-low-ne1
returns-then-low-ne1 c = let a = c.args in
    let e = ne_eqb a.low 1 c.if-low-ne1.true in
    ap not e ∙ (rw e at (runs_is a.rows.now a.low a.running))

pub returns-then-i-rows : goal.returns-then-i-rows
returns-then-i-rows c = let a = c.args in
    rw (eq-eqb a.low 1 c.if-low-ne1.false) at (runs_is a.rows.now a.low a.running)

pub returns-else-i-rows : goal.returns-else-i-rows
returns-else-i-rows c = let a = c.args in
    le-ltb a.running _ c.if-i-rows.false ∙ runs_none a.rows.now a.low a.running c.if-low-ne1.false c.if-i-rows.false
