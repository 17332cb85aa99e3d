use Rattle.worked_calls.proofs.NextPackets.{next-packets}
use Rattle.worked_calls.proofs.next_packets.Goals as goal

pub returns : goal.returns
returns c = next-packets
