use Rattle.runs.proofs.Refusing as proved
use Rattle.runs.proofs.refusals.Goals as goal

pub returns : goal.returns
returns c = proved.refusals
