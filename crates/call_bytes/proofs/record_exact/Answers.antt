use Rattle.call_bytes.proofs.Exact.{record_exact_lem}
use Rattle.call_bytes.proofs.record_exact.Goals as goal

pub returns : goal.returns
returns c = record_exact_lem
