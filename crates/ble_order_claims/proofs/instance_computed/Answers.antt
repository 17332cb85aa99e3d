use Rattle.ble_order_claims.proofs.Instance.{computed}
use Rattle.ble_order_claims.proofs.instance_computed.Goals as goal

pub returns : goal.returns
returns c = computed
