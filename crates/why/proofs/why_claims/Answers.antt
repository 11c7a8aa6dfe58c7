use Rattle.why.proofs.Claimed.{why_claims_lem}
use Rattle.why.proofs.why_claims.Goals as goal

pub returns : goal.returns
returns c = why_claims_lem
