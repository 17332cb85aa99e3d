use Rattle.capture_report_claims.proofs.Ordering.{order-is-free, fits_all, fits-only}
use Rattle.capture_report_claims.proofs.order_is_free.Goals as goal

pub returns : goal.returns
returns c = (order-is-free, fits_all, fits-only)
