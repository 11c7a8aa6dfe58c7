use Rattle.runs.proofs.Reaching as proved
use Rattle.runs.proofs.reached.Goals as goal

pub returns : goal.returns
returns c = proved.reached
