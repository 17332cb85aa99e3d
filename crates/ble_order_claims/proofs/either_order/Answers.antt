use Rattle.ble_order_claims.proofs.Lanes.{handed-all, either_order}
use Rattle.ble_order_claims.proofs.either_order.Goals as goal

pub returns : goal.returns
returns c = (handed-all, either_order)
