use Rattle.why.proofs.ReadBack.{reasons_apart_lem}
use Rattle.why.proofs.reasons_apart.Goals as goal

pub returns : goal.returns
returns c = reasons_apart_lem
