use Rattle.recording.proofs.Cases.{block_cases_lem}
use Rattle.recording.proofs.block_cases.Goals as goal

pub returns : goal.returns
returns c = block_cases_lem
