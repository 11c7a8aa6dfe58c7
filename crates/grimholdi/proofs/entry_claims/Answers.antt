use Rattle.grimholdi.proofs.Claimed as proved
use Rattle.grimholdi.proofs.entry_claims.Goals as goal

pub returns : goal.returns
returns c = proved.entry_claims_lem
