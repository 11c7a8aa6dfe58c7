use Rattle.chart.proofs.Refuted.{chart_mistakes_shut_out_lem}
use Rattle.chart.proofs.chart_mistakes_shut_out.Goals as goal

pub returns : goal.returns
returns c = chart_mistakes_shut_out_lem
