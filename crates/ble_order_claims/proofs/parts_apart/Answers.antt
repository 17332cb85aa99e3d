use Rattle.ble_order_claims.proofs.Lanes.{parts-apart}
use Rattle.ble_order_claims.proofs.parts_apart.Goals as goal

pub returns : goal.returns
returns c = parts-apart
