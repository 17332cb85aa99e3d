use Rattle.ble_claims.proofs.MessagesArrive.{answerable-all, slot-enough, messages-arrive}
use Rattle.ble_claims.proofs.messages_arrive.Goals as goal

pub returns : goal.returns
returns c = (answerable-all, slot-enough, messages-arrive)
