use Rattle.capture_report_claims.proofs.Worked.{rows-add}
use Rattle.capture_report_claims.proofs.worked_captures.Goals as goal

pub returns : goal.returns
returns c = rows-add
