use Rattle.area.proofs.Exact.{area_exact_lem}
use Rattle.area.proofs.area_exact.Goals as goal

pub returns : goal.returns
returns c = area_exact_lem
