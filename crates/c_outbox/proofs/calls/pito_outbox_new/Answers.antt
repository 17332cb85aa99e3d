use borrow.Author.Tests.{eq-eqb, ne_eqb}
use Rattle.c_outbox.specs.Calls.{outbox_new_of}
use Rattle.c_outbox.proofs.Told.{new-number, new-size}
use Rattle.c_outbox.proofs.calls.pito_outbox_new.Goals as goal

pub returns-then-answer-ne-COUNT_ANSWER : goal.returns-then-answer-ne-COUNT_ANSWER
unfolding outbox_new_of
returns-then-answer-ne-COUNT_ANSWER c = rw (ne_eqb _ _ c.if-answer-ne-COUNT_ANSWER.true)

pub returns : goal.returns
unfolding outbox_new_of
returns c =
    rw (
      eq-eqb _ _ c.if-answer-ne-COUNT_ANSWER.false,
      ← c.create-created.ensures,
      c.tell.ensures.0,
      c.tell.ensures.1,
      c.told.ensures,
      new-number c.create-created.result,
      new-size c.create-created.result,
    )
