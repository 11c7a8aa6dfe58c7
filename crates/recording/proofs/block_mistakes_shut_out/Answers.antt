use Rattle.recording.proofs.Refuted.{block_mistakes_shut_out_lem}
use Rattle.recording.proofs.block_mistakes_shut_out.Goals as goal

pub returns : goal.returns
returns c = block_mistakes_shut_out_lem
