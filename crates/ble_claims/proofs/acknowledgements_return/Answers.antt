use Rattle.ble_claims.proofs.AcknowledgementsReturn.{takes-every-ack, acknowledgements-return}
use Rattle.ble_claims.proofs.acknowledgements_return.Goals as goal

pub returns : goal.returns
returns c = (takes-every-ack, acknowledgements-return)
