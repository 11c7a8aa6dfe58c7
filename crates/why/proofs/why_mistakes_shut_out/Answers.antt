use Rattle.why.proofs.Mistaken.{why_mistakes_shut_out_lem}
use Rattle.why.proofs.why_mistakes_shut_out.Goals as goal

pub returns : goal.returns
returns c = why_mistakes_shut_out_lem
