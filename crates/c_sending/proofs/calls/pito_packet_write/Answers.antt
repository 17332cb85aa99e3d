use borrow.Author.Tests.{eq-eqb, ne_eqb}
use Rattle.c_sending.specs.Calls.{packet_write_of}
use Rattle.c_sending.proofs.calls.pito_packet_write.Goals as goal

pub returns-then-answer-ne-PACKET_ANSWER : goal.returns-then-answer-ne-PACKET_ANSWER
unfolding packet_write_of
returns-then-answer-ne-PACKET_ANSWER c = rw (ne_eqb _ _ c.if-answer-ne-PACKET_ANSWER.true)

pub returns : goal.returns
unfolding packet_write_of
returns c =
    rw (
      eq-eqb _ _ c.if-answer-ne-PACKET_ANSWER.false,
      ← c.sending-how.ensures,
      ← c.write_packet-outcome.ensures,
      c.put.ensures,
      c.number_of_result-number.ensures,
      c.packet_row-row.ensures,
    )
