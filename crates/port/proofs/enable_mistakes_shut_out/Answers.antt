use Rattle.port.proofs.Refuted.{enable_mistakes_shut_out_lem}
use Rattle.port.proofs.enable_mistakes_shut_out.Goals as goal

pub returns : goal.returns
returns c = enable_mistakes_shut_out_lem
