use Rattle.runs.proofs.LanesRefuted.{lane_mistakes_shut_out_lem}
use Rattle.runs.proofs.lane_mistakes_shut_out.Goals as goal

pub returns : goal.returns
returns c = lane_mistakes_shut_out_lem
