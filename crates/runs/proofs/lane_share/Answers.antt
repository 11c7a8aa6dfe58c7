use Rattle.runs.proofs.Sharing.{lane_share}
use Rattle.runs.proofs.lane_share.Goals as goal

pub returns : goal.returns
returns c = lane_share
