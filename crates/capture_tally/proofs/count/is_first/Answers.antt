use Rattle.ble_packet.specs.Reader.{fields_of}
use Rattle.capture_tally.proofs.count.is_first.Goals as goal

pub returns : goal.returns
unfolding fields_of
returns c = rw (c.type_bits.ensures, c.byte_at.ensures)
