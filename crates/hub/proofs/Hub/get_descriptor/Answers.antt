use Rattle.hub.proofs.Calls.{descriptor_cut}
use Rattle.hub.proofs.Hub.get_descriptor.Goals as goal

pub returns : goal.returns
returns c = descriptor_cut _ _ c.give_data.ensures c.of.ensures c.cut-n.ensures
