use Rattle.area.proofs.Cases.{valid_cases_lem}
use Rattle.area.proofs.valid_cases.Goals as goal

pub returns : goal.returns
returns c = valid_cases_lem
