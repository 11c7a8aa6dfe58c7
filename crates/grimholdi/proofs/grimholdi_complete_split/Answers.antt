use Rattle.std.proofs.Common.{sym, ◌∙◌}
use Rattle.grimholdi.proofs.Taken.{not_taken}
use Rattle.grimholdi.proofs.Completing.{complete_refused, nowhere, on_empty, on_pending, on_ready, on_old}
use Rattle.grimholdi.proofs.grimholdi_complete_split.Goals as goal

pub returns-then-not-is_area : goal.returns-then-not-is_area
returns-then-not-is_area c =
    let all = not_taken _ (sym c.is_area.ensures ∙ c.if-not-is_area.true) _ _ _ c.refused.ensures in
    record { value = all.0; area = all.1.0; reply = all.1.1 }

pub returns-in-Err : goal.returns-in-Err
returns-in-Err c =
    let all = complete_refused _ (sym c.is_area.ensures ∙ c.if-not-is_area.false) _ c.head_at-head.ensures _ _ _ _ c.key_named-named.ensures _ _ c.in-Err.ensures _ c.refused-in-Err.ensures in
    record { value = all.0; area = all.1.0; reply = all.1.1 }

pub returns-in_default-holder : goal.returns-in_default-holder
returns-in_default-holder c =
    let all = nowhere _ (sym c.is_area.ensures ∙ c.if-not-is_area.false) _ c.head_at-head.ensures _ _ _ _ c.key_named-named.ensures _ c.in_default.ensures _ c.slots_at-slots.ensures _ c.key_of-key.ensures c.holder.ensures c.in_default-holder.is _ c.uncompleted.ensures in
    record { value = all.0; area = all.1.0; reply = all.1.1 }

pub returns-in-Empty : goal.returns-in-Empty
returns-in-Empty c =
    let all = on_empty _ (sym c.is_area.ensures ∙ c.if-not-is_area.false) _ c.head_at-head.ensures _ _ _ _ c.key_named-named.ensures _ c.in_default.ensures _ c.slots_at-slots.ensures _ c.key_of-key.ensures c.holder.ensures c.in-Some.is _ c.buffer_at-b.ensures c.in-Empty.is _ c.uncompleted-in-Empty.ensures in
    record { value = all.0; area = all.1.0; reply = all.1.1 }

pub returns-in-Pending : goal.returns-in-Pending
returns-in-Pending c =
    let all = on_pending _ (sym c.is_area.ensures ∙ c.if-not-is_area.false) _ c.head_at-head.ensures _ _ _ _ c.key_named-named.ensures _ c.in_default.ensures _ c.slots_at-slots.ensures _ c.key_of-key.ensures c.holder.ensures c.in-Some.is _ c.buffer_at-b.ensures c.in-Pending.is _ c.uncompleted-in-Pending.ensures in
    record { value = all.0; area = all.1.0; reply = all.1.1 }

pub returns-in-Ready : goal.returns-in-Ready
returns-in-Ready c =
    let all = on_ready _ (sym c.is_area.ensures ∙ c.if-not-is_area.false) _ c.head_at-head.ensures _ _ _ _ c.key_named-named.ensures _ c.in_default.ensures _ c.slots_at-slots.ensures _ c.key_of-key.ensures c.holder.ensures c.in-Some.is _ c.buffer_at-b.ensures c.in-Ready.is _ _ _ c.put_old.ensures (c.give_result.ensures.value, c.give_result.ensures.reply) in
    record { value = all.0; area = all.1.0; reply = all.1.1 }

pub returns-in-Old : goal.returns-in-Old
returns-in-Old c =
    let all = on_old _ (sym c.is_area.ensures ∙ c.if-not-is_area.false) _ c.head_at-head.ensures _ _ _ _ c.key_named-named.ensures _ c.in_default.ensures _ c.slots_at-slots.ensures _ c.key_of-key.ensures c.holder.ensures c.in-Some.is _ c.buffer_at-b.ensures c.in-Old.is _ _ (c.give_result-in-Old.ensures.value, c.give_result-in-Old.ensures.reply) in
    record { value = all.0; area = all.1.0; reply = all.1.1 }
