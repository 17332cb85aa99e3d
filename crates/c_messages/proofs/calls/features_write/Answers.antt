use borrow.Author.Tests.{eq-eqb, ne_eqb}
use Rattle.c_messages.specs.Calls.{features_write_of}
use Rattle.c_messages.proofs.calls.features_write.Goals as goal

pub returns-then-answer-ne-COUNT_ANSWER : goal.returns-then-answer-ne-COUNT_ANSWER
unfolding features_write_of
returns-then-answer-ne-COUNT_ANSWER c = rw (ne_eqb _ _ c.if-answer-ne-COUNT_ANSWER.true)

pub returns : goal.returns
unfolding features_write_of
returns c =
    rw (
      eq-eqb _ _ c.if-answer-ne-COUNT_ANSWER.false,
      ← c.write_features-wrote.ensures,
      c.tell.ensures.0,
      c.tell.ensures.1,
      c.told.ensures,
    )
