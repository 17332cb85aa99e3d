use borrow.Author.Tests.{eq-eqb, ne_eqb}
use Rattle.c_sending.specs.Calls.{ack_write_of}
use Rattle.c_sending.proofs.calls.pito_ack_write.Goals as goal

pub returns-then-answer-ne-COUNT_ANSWER : goal.returns-then-answer-ne-COUNT_ANSWER
unfolding ack_write_of
returns-then-answer-ne-COUNT_ANSWER c = rw (ne_eqb _ _ c.if-answer-ne-COUNT_ANSWER.true)

pub returns : goal.returns
unfolding ack_write_of
returns c =
    rw (
      eq-eqb _ _ c.if-answer-ne-COUNT_ANSWER.false,
      ← c.stream_with-known.ensures,
      ← c.byte_or-low_id.ensures,
      ← c.byte_or-low_sequence.ensures,
      ← c.write-outcome.ensures,
      c.tell.ensures.0,
      c.tell.ensures.1,
      c.told.ensures,
    )
