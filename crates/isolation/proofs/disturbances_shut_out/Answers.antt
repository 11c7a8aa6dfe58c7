use Rattle.isolation.proofs.Refuted.{disturbances_shut_out_lem}
use Rattle.isolation.proofs.disturbances_shut_out.Goals as goal

pub returns : goal.returns
returns c = disturbances_shut_out_lem
