use Rattle.runs.proofs.RefusalsRefuted.{refusal_mistakes_shut_out_lem}
use Rattle.runs.proofs.refusal_mistakes_shut_out.Goals as goal

pub returns : goal.returns
returns c = refusal_mistakes_shut_out_lem
