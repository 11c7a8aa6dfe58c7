use Rattle.std.proofs.Common.{sym, ◌∙◌}
use Rattle.grimholdi.proofs.Taken.{turned_away}
use Rattle.grimholdi.proofs.Delivering.{deliver_refused, idle, not_pending, unsuited, suited, abandoned}
use Rattle.grimholdi.proofs.grimholdi_deliver.Goals as goal

pub returns-then-not-is_area : goal.returns-then-not-is_area
returns-then-not-is_area c =
    let all = turned_away _ (sym c.is_area.ensures ∙ c.if-not-is_area.true) _ _ c.refused.ensures in
    record { value = all.0; area = all.1 }

pub returns-in-Err : goal.returns-in-Err
returns-in-Err c =
    let all = deliver_refused _ (sym c.is_area.ensures ∙ c.if-not-is_area.false) _ c.head_at-head.ensures _ _ _ c.result_of-kind.ensures (rw (c.is_result.ensures, c.carries.ensures)) _ c.in-Err.ensures _ c.refused-in-Err.ensures in
    record { value = all.0; area = all.1 }

pub returns-in-Idle : goal.returns-in-Idle
returns-in-Idle c =
    let all = idle _ (sym c.is_area.ensures ∙ c.if-not-is_area.false) _ c.head_at-head.ensures _ _ _ c.result_of-kind.ensures (rw (c.is_result.ensures, c.carries.ensures)) c.in_default.ensures c.in-Idle.is _ c.delivered.ensures in
    record { value = all.0; area = all.1 }

pub returns-in-Empty : goal.returns-in-Empty
returns-in-Empty c =
    let all = not_pending _ (sym c.is_area.ensures ∙ c.if-not-is_area.false) _ c.head_at-head.ensures _ _ _ c.result_of-kind.ensures (rw (c.is_result.ensures, c.carries.ensures)) c.in_default.ensures c.in-Running.is _ c.slot_at.ensures c.in-Empty.is _ c.delivered-in-Empty.ensures in
    record { value = all.0; area = all.1 }

pub returns-then-not-suits : goal.returns-then-not-suits
returns-then-not-suits c =
    let all = unsuited _ (sym c.is_area.ensures ∙ c.if-not-is_area.false) _ c.head_at-head.ensures _ _ _ c.result_of-kind.ensures (rw (c.is_result.ensures, c.carries.ensures)) c.in_default.ensures c.in-Running.is _ c.slot_at.ensures c.in-Pending.is c.suits.ensures c.if-not-suits.true _ c.delivered-then-not-suits.ensures in
    record { value = all.0; area = all.1 }

pub returns-else-not-suits : goal.returns-else-not-suits
returns-else-not-suits c =
    let all = suited _ (sym c.is_area.ensures ∙ c.if-not-is_area.false) _ c.head_at-head.ensures _ _ _ c.result_of-kind.ensures (rw (c.is_result.ensures, c.carries.ensures)) c.in_default.ensures c.in-Running.is _ c.slot_at.ensures c.in-Pending.is c.suits.ensures c.if-not-suits.false _ _ c.delivered-in-Pending.ensures c.put_result.ensures in
    record { value = all.0; area = all.1 }

pub returns-in-Abandoned : goal.returns-in-Abandoned
returns-in-Abandoned c =
    let all = abandoned _ (sym c.is_area.ensures ∙ c.if-not-is_area.false) _ c.head_at-head.ensures _ _ _ c.result_of-kind.ensures (rw (c.is_result.ensures, c.carries.ensures)) c.in_default.ensures c.in-Abandoned.is _ _ c.delivered-in-Abandoned.ensures c.write_low.ensures in
    record { value = all.0; area = all.1 }
