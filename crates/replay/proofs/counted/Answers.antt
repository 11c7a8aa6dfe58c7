use Rattle.replay.proofs.Tallying.{counted}
use Rattle.replay.proofs.counted.Goals as goal

pub returns : goal.returns
returns c = counted
