use Rattle.ble_claims.proofs.Instance.{arrives}
use Rattle.ble_claims.proofs.instance_arrives.Goals as goal

pub returns : goal.returns
returns c = arrives
