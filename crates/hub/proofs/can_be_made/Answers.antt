use Rattle.hub.proofs.Numbers.{tested}
use Rattle.hub.proofs.can_be_made.Goals as goal

pub returns : goal.returns
returns c = tested _ _ _ _ _ c.above_port.ensures
