use Rattle.ble_claims.proofs.MessagesArrive.{round_trip}
use Rattle.ble_claims.proofs.round_trip.Goals as goal

pub returns : goal.returns
returns c = round_trip
