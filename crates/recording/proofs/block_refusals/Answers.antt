use Rattle.recording.proofs.Refusals.{block_refusals_lem}
use Rattle.recording.proofs.block_refusals.Goals as goal

pub returns : goal.returns
returns c = block_refusals_lem
