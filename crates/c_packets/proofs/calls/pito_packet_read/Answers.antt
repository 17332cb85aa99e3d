use borrow.Author.Tests.{eq-eqb, ne_eqb}
use Rattle.c_packets.specs.Calls.{packet_read_of}
use Rattle.c_packets.proofs.calls.pito_packet_read.Goals as goal

pub returns-then-answer-ne-READ_ANSWER : goal.returns-then-answer-ne-READ_ANSWER
unfolding packet_read_of
returns-then-answer-ne-READ_ANSWER c = rw (ne_eqb _ _ c.if-answer-ne-READ_ANSWER.true)

pub returns : goal.returns
unfolding packet_read_of
returns c =
    rw (
      eq-eqb _ _ c.if-answer-ne-READ_ANSWER.false,
      ← c.end_of-end.ensures,
      ← c.byte_at.ensures,
      ← c.extender_bit-extended.ensures,
      ← c.read_front-front.ensures,
      c.put.ensures,
      c.number_of_result-number.ensures,
      c.front_row-row.ensures,
    )
