use Rattle.ble_packet_end.proofs.said_length.Goals as goal

pub returns : goal.returns
returns c = cc (c.header_size-size.ensures.0, c.length_place-place.ensures.0, c.length_at.ensures.0)
