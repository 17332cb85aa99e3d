use Rattle.ble_sender.proofs.writer.put_start.Goals as goal

pub returns : goal.returns
returns c =
    rw (
      c.second_byte.ensures,
      c.first_byte.ensures,
      c.both-ack.ensures,
      c.type_for-kind.ensures.0,
      c.sequence_after-sequence.ensures.0,
    )
