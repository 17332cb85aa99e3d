use Rattle.capture_report_claims.proofs.Sent.{message-costs}
use Rattle.capture_report_claims.proofs.message_costs.Goals as goal

pub returns : goal.returns
returns c = message-costs
