use Rattle.worked_calls.proofs.Report.{report-calls}
use Rattle.worked_calls.proofs.report_calls.Goals as goal

pub returns : goal.returns
returns c = report-calls
