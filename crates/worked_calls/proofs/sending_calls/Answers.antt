use Rattle.worked_calls.proofs.Sending.{sending-calls}
use Rattle.worked_calls.proofs.sending_calls.Goals as goal

pub returns : goal.returns
returns c = sending-calls
