use Rattle.ports.proofs.Laws.{ports_claims_lem}
use Rattle.ports.proofs.ports_claims.Goals as goal

pub returns : goal.returns
returns c = ports_claims_lem
