use Rattle.hub_chart.proofs.Moves.{only_inputs_move_lem}
use Rattle.hub_chart.proofs.only_inputs_move.Goals as goal

pub returns : goal.returns
returns c = only_inputs_move_lem
