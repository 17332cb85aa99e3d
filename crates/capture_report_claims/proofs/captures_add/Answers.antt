use Rattle.capture_report_claims.proofs.Added.{captures-add, any-capture}
use Rattle.capture_report_claims.proofs.captures_add.Goals as goal

pub returns : goal.returns
returns c = (captures-add, any-capture)
