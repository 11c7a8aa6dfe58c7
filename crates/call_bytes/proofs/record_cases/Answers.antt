use Rattle.call_bytes.proofs.Cases.{record_cases_lem}
use Rattle.call_bytes.proofs.record_cases.Goals as goal

pub returns : goal.returns
returns c = record_cases_lem
