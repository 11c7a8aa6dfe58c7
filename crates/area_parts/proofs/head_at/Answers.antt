use Rattle.area_parts.proofs.Got.{head_none, head_some}
use Rattle.area_parts.proofs.head_at.Goals as goal

pub returns-then-area-lt8 : goal.returns-then-area-lt8
returns-then-area-lt8 c = head_none _ c.if-area-lt8.true

pub returns : goal.returns
returns c = head_some _ c.if-area-lt8.false _ c.low_of.ensures
