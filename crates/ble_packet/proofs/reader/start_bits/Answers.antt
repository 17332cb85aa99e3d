use Rattle.ble_packet.proofs.reader.start_bits.Goals as goal

pub returns : goal.returns
returns c =
    rw (
      c.id_bits.ensures,
      c.sequence_bits.ensures,
      c.ack_bit.ensures,
      c.extender_bit.ensures,
    )
