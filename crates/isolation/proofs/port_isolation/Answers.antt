use Rattle.isolation.proofs.Isolated.{port_isolation_lem}
use Rattle.isolation.proofs.port_isolation.Goals as goal

pub returns : goal.returns
returns c = port_isolation_lem
