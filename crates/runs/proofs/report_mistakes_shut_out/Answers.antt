use Rattle.runs.proofs.ReportsRefuted.{report_mistakes_shut_out_lem}
use Rattle.runs.proofs.report_mistakes_shut_out.Goals as goal

pub returns : goal.returns
returns c = report_mistakes_shut_out_lem
