use Rattle.capture_report_claims.proofs.LeftOpen.{left-open-is-open, open-is-added}
use Rattle.capture_report_claims.proofs.left_open_is_open.Goals as goal

pub returns : goal.returns
returns c = (left-open-is-open, open-is-added)
