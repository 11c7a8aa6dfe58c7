use Rattle.std.proofs.Common.{sym, ◌∙◌}
use Rattle.grimholdi.proofs.Taken.{not_taken}
use Rattle.grimholdi.proofs.Launching.{launch_refused, occupied, none_pending, not_pending, launches}
use Rattle.grimholdi.proofs.grimholdi_launch.Goals as goal

pub returns-then-not-is_area : goal.returns-then-not-is_area
returns-then-not-is_area c =
    let all = not_taken _ (sym c.is_area.ensures ∙ c.if-not-is_area.true) _ _ _ c.refused.ensures in
    record { value = all.0; area = all.1.0; reply = all.1.1 }

pub returns-in-Err : goal.returns-in-Err
returns-in-Err c =
    let all = launch_refused _ (sym c.is_area.ensures ∙ c.if-not-is_area.false) _ c.head_at-head.ensures _ _ c.in-Err.ensures _ c.refused-in-Err.ensures in
    record { value = all.0; area = all.1.0; reply = all.1.1 }

pub returns-in-Running : goal.returns-in-Running
returns-in-Running c =
    let all = occupied _ (sym c.is_area.ensures ∙ c.if-not-is_area.false) _ c.head_at-head.ensures _ c.in_default.ensures c.in-Running.is _ c.unlaunched.ensures in
    record { value = all.0; area = all.1.0; reply = all.1.1 }

pub returns-in_default-earliest_of : goal.returns-in_default-earliest_of
returns-in_default-earliest_of c =
    let all = none_pending _ (sym c.is_area.ensures ∙ c.if-not-is_area.false) _ c.head_at-head.ensures _ c.in_default.ensures c.in-Idle.is _ c.slots_at-slots.ensures c.earliest_of.ensures c.in_default-earliest_of.is _ c.unlaunched-in_default-earliest_of.ensures in
    record { value = all.0; area = all.1.0; reply = all.1.1 }

pub returns-in_default-slot : goal.returns-in_default-slot
returns-in_default-slot c =
    let all = not_pending _ (sym c.is_area.ensures ∙ c.if-not-is_area.false) _ c.head_at-head.ensures _ c.in_default.ensures c.in-Idle.is _ c.slots_at-slots.ensures c.earliest_of.ensures c.in-Some.is _ c.buffer_at-b.ensures c.in_default-slot.not-Pending _ c.unlaunched-in_default-slot.ensures in
    record { value = all.0; area = all.1.0; reply = all.1.1 }

pub returns : goal.returns
returns c =
    let all = launches _ (sym c.is_area.ensures ∙ c.if-not-is_area.false) _ c.head_at-head.ensures _ c.in_default.ensures c.in-Idle.is _ c.slots_at-slots.ensures c.earliest_of.ensures c.in-Some.is _ c.buffer_at-b.ensures c.in-Pending.is _ _ _ c.launch_answer.ensures c.write_low.ensures c.give.ensures in
    record { value = all.0; area = all.1.0; reply = all.1.1 }
