use Rattle.area_check.proofs.Ties.{clash_is}
use mathlib.Core.Path.{sym, ◌∙◌}
use Rattle.area_check.proofs.clash.Goals as goal

pub returns-then-same_key : goal.returns-then-same_key
returns-then-same_key c = c.if-same_key.true ∙ (rw (sym c.both_held.ensures ∙ c.if-both_held.true, sym c.same_key.ensures ∙ c.if-same_key.true) at (clash_is c.args.x.now c.args.y.now))

pub returns-else-same_key : goal.returns-else-same_key
returns-else-same_key c = c.same_place.ensures ∙ (rw (sym c.both_held.ensures ∙ c.if-both_held.true, sym c.same_key.ensures ∙ c.if-same_key.false) at (clash_is c.args.x.now c.args.y.now))

pub returns-else-both_held : goal.returns-else-both_held
returns-else-both_held c = c.if-both_held.false ∙ (rw (sym c.both_held.ensures ∙ c.if-both_held.false) at (clash_is c.args.x.now c.args.y.now))
