use Rattle.hub_chart.proofs.Refuted.{hub_chart_mistakes_shut_out_lem}
use Rattle.hub_chart.proofs.hub_chart_mistakes_shut_out.Goals as goal

pub returns : goal.returns
returns c = hub_chart_mistakes_shut_out_lem
