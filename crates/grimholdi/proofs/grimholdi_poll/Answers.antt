use Rattle.grimholdi.proofs.Entries.{gives_reply, poll_stays, refuses_reply}
use Rattle.grimholdi.proofs.grimholdi_poll.Goals as goal

pub returns-in_default : goal.returns-in_default
returns-in_default c =
    let all = refuses_reply _ c.in_default.ensures _ _ _ c.refused.ensures in
    record { value = all.0; area = all.1.0; reply = all.1.1 }

pub returns : goal.returns
returns c =
    let all = gives_reply _ _ c.in-Some.ensures _ _ c.poll.result c.poll.ensures (poll_stays _ _ _) _ _ (c.give_reply.ensures.value, c.give_reply.ensures.reply) in
    record { value = all.0; area = all.1.0; reply = all.1.1 }
