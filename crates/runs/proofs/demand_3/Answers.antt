use Rattle.runs.proofs.Theorems.{demand_3}
use Rattle.runs.proofs.demand_3.Goals as goal

pub returns : goal.returns
returns c = demand_3
