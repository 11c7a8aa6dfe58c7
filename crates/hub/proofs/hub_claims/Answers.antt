use Rattle.hub.proofs.Claimed.{hub_claims_lem}
use Rattle.hub.proofs.hub_claims.Goals as goal

pub returns : goal.returns
returns c = hub_claims_lem
