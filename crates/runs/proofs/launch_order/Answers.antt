use Rattle.runs.proofs.AcceptanceSteps.{launch_order}
use Rattle.runs.proofs.launch_order.Goals as goal

pub returns : goal.returns
returns c = launch_order
