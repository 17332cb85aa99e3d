use Rattle.capture_report_claims.proofs.Orders.{two-orders}
use Rattle.capture_report_claims.proofs.two_orders.Goals as goal

pub returns : goal.returns
returns c = two-orders
