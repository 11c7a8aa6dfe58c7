use Rattle.hub.proofs.Numbers.{new_made}
use Rattle.hub.proofs.Hub.new.Goals as goal

pub returns : goal.returns
returns c = new_made _ _ _ _ _ c.hub_of.ensures c.can_be_made.ensures c.if-not-can_be_made.false
