use Rattle.area_parts.proofs.Exact.{parts_exact_lem}
use Rattle.area_parts.proofs.parts_exact.Goals as goal

pub returns : goal.returns
returns c = parts_exact_lem
