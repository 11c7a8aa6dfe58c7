use Rattle.isolation.proofs.Cases.{isolation_cases_lem}
use Rattle.isolation.proofs.isolation_cases.Goals as goal

pub returns : goal.returns
returns c = isolation_cases_lem
