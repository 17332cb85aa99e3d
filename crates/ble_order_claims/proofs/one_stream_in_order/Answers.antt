use Rattle.ble_order_claims.proofs.Instance.{one-stream}
use Rattle.ble_order_claims.proofs.one_stream_in_order.Goals as goal

pub returns : goal.returns
returns c = one-stream
