use Rattle.translator.proofs.StartSplit.{made}
use Rattle.translator.proofs.Translator.store.Goals as goal

pub returns : goal.returns
returns c = made _ _ _ _ c.with_buffer.ensures c.renumber-buffers.ensures c.of.ensures c.count_waiting-place.ensures c.slots-slots.ensures
