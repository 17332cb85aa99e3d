use Rattle.capture_report_claims.proofs.Added.{bytes_count, none_elsewhere}
use Rattle.capture_report_claims.proofs.bytes_count.Goals as goal

pub returns : goal.returns
returns c = (bytes_count, none_elsewhere)
