use Rattle.runs.proofs.Tallied.{tally_holds}
use Rattle.runs.proofs.tally_holds.Goals as goal

pub returns : goal.returns
returns c = tally_holds
