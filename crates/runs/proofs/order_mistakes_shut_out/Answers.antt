use Rattle.runs.proofs.OrderRefuted.{order_mistakes_shut_out_lem}
use Rattle.runs.proofs.order_mistakes_shut_out.Goals as goal

pub returns : goal.returns
returns c = order_mistakes_shut_out_lem
