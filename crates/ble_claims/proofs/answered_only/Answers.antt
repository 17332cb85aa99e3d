use Rattle.ble_claims.proofs.Answering.{answered-only}
use Rattle.ble_claims.proofs.answered_only.Goals as goal

pub returns : goal.returns
returns c = answered-only
