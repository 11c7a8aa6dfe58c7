use Rattle.std.proofs.Common.{sym, ◌∙◌}
use Rattle.hub.specs.Call.{Start}
use Rattle.grimholdi.proofs.Taken.{turned_away, Leaves}
use Rattle.grimholdi.proofs.Starting.{start_refused, keeps, stores}
use Rattle.grimholdi.proofs.grimholdi_start_split.Goals as goal
use Rattle.grimholdi.proofs.grimholdi_start_split.Goals.{in_default-choice, in-Reused2}

pub returns-then-not-is_area : goal.returns-then-not-is_area
returns-then-not-is_area c =
    let all = turned_away _ (sym c.is_area.ensures ∙ c.if-not-is_area.true) _ _ c.refused.ensures in
    record { value = all.0; area = all.1 }

pub returns-in-Err : goal.returns-in-Err
returns-in-Err c =
    let all = start_refused _ (sym c.is_area.ensures ∙ c.if-not-is_area.false) _ c.head_at-head.ensures _ _ _ _ _ _ _ _ _ c.split_of-split.ensures (rw (c.split_named-named.ensures, c.fits.ensures)) _ c.in-Err.ensures _ c.refused-in-Err.ensures in
    record { value = all.0; area = all.1 }

pub returns : goal.returns
returns c =
    let all : Leaves c.args.area.now (Start c.args.lane c.args.pid c.args.transfer c.args.lowspeed c.args.toggle c.args.address c.args.endpoint c.args.payload.now) c.started.result c.match-choice.area =
    elim c.match-choice.branch [
      | in_default-choice w ↦ keeps _ (sym c.is_area.ensures ∙ c.if-not-is_area.false) _ c.head_at-head.ensures _ _ _ _ _ _ _ _ _ c.split_of-split.ensures (rw (c.split_named-named.ensures, c.fits.ensures)) c.in_default.ensures _ c.slots_at-slots.ensures _ c.key.ensures c.choose-choice.ensures _ w.choice-is _ c.started.ensures _ w.area-is w.in_default-choice.not-Reused w.in_default-choice.not-Took
      | in-Reused2 w ↦ stores _ (sym c.is_area.ensures ∙ c.if-not-is_area.false) _ c.head_at-head.ensures _ _ _ _ _ _ _ _ _ c.split_of-split.ensures (rw (c.split_named-named.ensures, c.fits.ensures)) c.in_default.ensures _ c.slots_at-slots.ensures _ c.key.ensures c.choose-choice.ensures _ (w.choice-is ∙ w.in-Reused.choice-is) _ c.started.ensures _ (w.area-is ∙ w.store.ensures) w.in-Reused.is
    ] in
    record { value = all.0; area = all.1 }
