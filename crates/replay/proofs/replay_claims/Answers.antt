use Rattle.replay.proofs.Replays.{replay_claims_lem}
use Rattle.replay.proofs.replay_claims.Goals as goal

pub returns : goal.returns
returns c = replay_claims_lem
