use Rattle.ble_packet.proofs.Controls.{tail-bytes}
use Rattle.ble_packet.specs.Control.{ack_code}
use Rattle.ble_packet.proofs.reader.is_acknowledgement.Goals as goal

pub returns : goal.returns
returns c =
    simp (tail-bytes c.args.packet.now 0 2 1 (ack_code c.args.ack)) (cc)
