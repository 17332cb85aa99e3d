use Rattle.capture_why.proofs.came_by.Goals as goal

pub returns : goal.returns
returns c =
    rw (
      c.extender_bit-extended.ensures,
      c.ack_bit-ack.ensures,
      c.type_bits-kind.ensures,
      c.sequence_bits-sequence.ensures,
      c.id_bits-id.ensures,
      c.stream_bits-stream.ensures,
    )
