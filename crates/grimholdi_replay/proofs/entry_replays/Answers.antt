use Rattle.grimholdi_replay.proofs.Through.{entry_replays_lem}
use Rattle.grimholdi_replay.proofs.entry_replays.Goals as goal

pub returns : goal.returns
returns c = entry_replays_lem
