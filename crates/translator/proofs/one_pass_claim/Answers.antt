use Rattle.translator.proofs.OnePass.{one_pass_claim_lem}
use Rattle.translator.proofs.one_pass_claim.Goals as goal

pub returns : goal.returns
returns c = one_pass_claim_lem
