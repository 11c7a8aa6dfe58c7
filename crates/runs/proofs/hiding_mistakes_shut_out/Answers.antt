use Rattle.runs.proofs.HidingRefuted.{hiding_mistakes_shut_out_lem}
use Rattle.runs.proofs.hiding_mistakes_shut_out.Goals as goal

pub returns : goal.returns
returns c = hiding_mistakes_shut_out_lem
