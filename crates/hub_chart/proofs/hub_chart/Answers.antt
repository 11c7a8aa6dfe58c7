use Rattle.hub_chart.proofs.Follows.{hub_follows}
use Rattle.hub_chart.proofs.hub_chart.Goals as goal

pub returns : goal.returns
returns c = hub_follows _ c.chart.ensures
