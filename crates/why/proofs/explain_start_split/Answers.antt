use Rattle.why.proofs.Explaining.{start_way}
use Rattle.why.proofs.explain_start_split.Goals as goal

pub returns : goal.returns
returns c = start_way _ _ _ _ _ _ _ _ _ c.start_split-o.ensures c.split_of-split.ensures c.start_split-started.ensures c.number_first.ensures c.start_reason.ensures
