use Rattle.recording.proofs.Blocks.{block_exact_lem}
use Rattle.recording.proofs.block_exact.Goals as goal

pub returns : goal.returns
returns c = block_exact_lem
