use Rattle.ble_claims.proofs.MessagesArrive.{message-asked}
use Rattle.ble_claims.proofs.message_asked.Goals as goal

pub returns : goal.returns
returns c = message-asked
