use Rattle.runs.proofs.TallyRefuted.{tally_mistakes_shut_out_lem}
use Rattle.runs.proofs.tally_mistakes_shut_out.Goals as goal

pub returns : goal.returns
returns c = tally_mistakes_shut_out_lem
