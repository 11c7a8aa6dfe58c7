use Rattle.why.proofs.Explaining.{poll_way}
use Rattle.why.proofs.explain_poll.Goals as goal

pub returns : goal.returns
returns c = poll_way _ _ _ c.poll-o.ensures c.number_first.ensures c.poll_reason.ensures c.changes_by_port.ensures
