use Rattle.ble_packet.specs.Header.{in_range}
use Rattle.ble_packet.proofs.header.in_range.Goals as goal

pub returns : goal.returns
unfolding in_range
returns c = cc
