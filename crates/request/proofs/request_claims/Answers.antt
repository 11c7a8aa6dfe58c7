use Rattle.request.proofs.Claimed.{request_claims_lem}
use Rattle.request.proofs.request_claims.Goals as goal

pub returns : goal.returns
returns c = request_claims_lem
