use Rattle.runs.proofs.Reporting.{error_reports}
use Rattle.runs.proofs.error_reports.Goals as goal

pub returns : goal.returns
returns c = error_reports
