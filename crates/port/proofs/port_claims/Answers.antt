use Rattle.port.proofs.Claimed.{port_claims_lem}
use Rattle.port.proofs.port_claims.Goals as goal

pub returns : goal.returns
returns c = port_claims_lem
