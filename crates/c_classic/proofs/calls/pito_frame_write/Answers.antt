use borrow.Author.Tests.{eq-eqb, ne_eqb}
use Rattle.c_classic.specs.Calls.{frame_write_of}
use Rattle.c_classic.proofs.calls.pito_frame_write.Goals as goal

pub returns-then-answer-ne-COUNT_ANSWER : goal.returns-then-answer-ne-COUNT_ANSWER
unfolding frame_write_of
returns-then-answer-ne-COUNT_ANSWER c = rw (ne_eqb _ _ c.if-answer-ne-COUNT_ANSWER.true)

pub returns : goal.returns
unfolding frame_write_of
returns c =
    rw (
      eq-eqb _ _ c.if-answer-ne-COUNT_ANSWER.false,
      ← c.byte_or-sequence.ensures,
      ← c.write_frame-outcome.ensures,
      c.tell.ensures.0,
      c.tell.ensures.1,
      c.told.ensures,
    )
