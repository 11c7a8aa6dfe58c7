use Rattle.numbers.proofs.Laws.{numbers_claims_lem}
use Rattle.numbers.proofs.numbers_claims.Goals as goal

pub returns : goal.returns
returns c = numbers_claims_lem
