use Rattle.why.proofs.Cases.{why_cases_lem}
use Rattle.why.proofs.why_cases.Goals as goal

pub returns : goal.returns
returns c = why_cases_lem
