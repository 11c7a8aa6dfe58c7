use Rattle.grimholdi.proofs.Entries.{refuses_reply, settles_reply}
use Rattle.grimholdi.proofs.grimholdi_control.Goals as goal

pub returns-in_default : goal.returns-in_default
returns-in_default c =
    let all = refuses_reply _ c.in_default.ensures _ _ _ c.refused.ensures in
    record { value = all.0; area = all.1.0; reply = all.1.1 }

pub returns : goal.returns
returns c =
    let all = settles_reply _ _ c.in-Some.ensures _ _ c.control.result c.control.ensures _ _ _
    (c.settle_reply.ensures.value, (c.settle_reply.ensures.area, c.settle_reply.ensures.reply)) in
    record { value = all.0; area = all.1.0; reply = all.1.1 }
