use Rattle.recording.proofs.Rows.{calls_exact_lem}
use Rattle.recording.proofs.calls_exact.Goals as goal

pub returns : goal.returns
returns c = calls_exact_lem
