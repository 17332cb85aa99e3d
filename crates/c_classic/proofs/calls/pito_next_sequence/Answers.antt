use borrow.Author.Tests.{eq-eqb, ne_eqb}
use Rattle.c_classic.specs.Calls.{next_sequence_of}
use Rattle.c_classic.proofs.calls.pito_next_sequence.Goals as goal

pub returns-then-answer-ne-COUNT_ANSWER : goal.returns-then-answer-ne-COUNT_ANSWER
unfolding next_sequence_of
returns-then-answer-ne-COUNT_ANSWER c = rw (ne_eqb _ _ c.if-answer-ne-COUNT_ANSWER.true)

pub returns : goal.returns
unfolding next_sequence_of
returns c =
    rw (
      eq-eqb _ _ c.if-answer-ne-COUNT_ANSWER.false,
      c.tell.ensures.0,
      c.tell.ensures.1,
      c.wide64-size.ensures.0,
      c.next_sequence.ensures,
    )
