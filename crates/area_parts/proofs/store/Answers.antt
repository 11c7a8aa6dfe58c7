use Rattle.area_parts.proofs.Storing.{store_all}
use Rattle.area_parts.proofs.store.Goals as goal

pub returns : goal.returns
returns c =
    store_all _ _ _ _ _ _
    c.rerank.ensures
    c.rerank-2.ensures
    c.rerank-3.ensures
    c.rerank-4.ensures
    c.count_waiting.ensures
    c.of.ensures
    c.write_buffer.ensures
