use Rattle.worked_calls.proofs.Packets.{packet-calls}
use Rattle.worked_calls.proofs.packet_calls.Goals as goal

pub returns : goal.returns
returns c = packet-calls
