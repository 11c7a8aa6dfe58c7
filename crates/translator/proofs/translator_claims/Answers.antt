use Rattle.translator.proofs.Claimed.{translator_claims_lem}
use Rattle.translator.proofs.translator_claims.Goals as goal

pub returns : goal.returns
returns c = translator_claims_lem
