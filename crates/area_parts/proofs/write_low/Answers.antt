use Rattle.area_parts.proofs.Got.{low_not, low_put}
use Rattle.area_parts.proofs.write_low.Goals as goal

pub returns-then-area-ge8 : goal.returns-then-area-ge8
returns-then-area-ge8 c = let s = c.args in
    low_put s.area.now s.low c.if-area-ge8.true c.low_byte.ensures c.running_byte.ensures

pub returns-else-area-ge8 : goal.returns-else-area-ge8
returns-else-area-ge8 c = low_not _ c.args.low c.if-area-ge8.false
