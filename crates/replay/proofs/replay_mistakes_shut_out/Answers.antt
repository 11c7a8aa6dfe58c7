use Rattle.replay.proofs.ReplayRefuted.{replay_mistakes_shut_out_lem}
use Rattle.replay.proofs.replay_mistakes_shut_out.Goals as goal

pub returns : goal.returns
returns c = replay_mistakes_shut_out_lem
