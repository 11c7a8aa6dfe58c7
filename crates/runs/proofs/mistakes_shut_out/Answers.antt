use Rattle.runs.proofs.Refuted.{mistakes_shut_out_lem}
use Rattle.runs.proofs.mistakes_shut_out.Goals as goal

pub returns : goal.returns
returns c = mistakes_shut_out_lem
