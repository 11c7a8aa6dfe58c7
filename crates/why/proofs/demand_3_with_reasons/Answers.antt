use Rattle.why.proofs.ExplainedRuns.{demand_3_with_reasons_lem}
use Rattle.why.proofs.demand_3_with_reasons.Goals as goal

pub returns : goal.returns
returns c = demand_3_with_reasons_lem
