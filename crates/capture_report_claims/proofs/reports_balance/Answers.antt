use Rattle.capture_report_claims.proofs.Balancing.{reports-balance}
use Rattle.capture_report_claims.proofs.reports_balance.Goals as goal

pub returns : goal.returns
returns c = reports-balance
