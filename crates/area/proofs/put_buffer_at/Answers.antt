use Rattle.area.proofs.Parts.{put_none, put_some}
use Rattle.area.proofs.put_buffer_at.Goals as goal

pub returns-then-end-area : goal.returns-then-end-area
returns-then-end-area c = let s = c.args in
    put_some s.at s.area.now c.if-end-area.true s.buffer c.put_buffer.ensures

pub returns-else-end-area : goal.returns-else-end-area
returns-else-end-area c = put_none _ _ c.if-end-area.false c.args.buffer
