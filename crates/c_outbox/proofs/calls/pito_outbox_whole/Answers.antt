use borrow.Author.Tests.{eq-eqb, ne_eqb}
use Rattle.c_outbox.specs.Calls.{outbox_whole_of}
use Rattle.c_outbox.proofs.Told.{walk-number}
use Rattle.c_outbox.proofs.calls.pito_outbox_whole.Goals as goal

pub returns-then-answer-ne-WHOLE_ANSWER : goal.returns-then-answer-ne-WHOLE_ANSWER
unfolding outbox_whole_of
returns-then-answer-ne-WHOLE_ANSWER c = rw (ne_eqb _ _ c.if-answer-ne-WHOLE_ANSWER.true)

pub returns : goal.returns
unfolding outbox_whole_of
returns c =
    rw (
      eq-eqb _ _ c.if-answer-ne-WHOLE_ANSWER.false,
      ← c.walk-walked.ensures,
      c.put.ensures,
      c.wide64-number.ensures.0,
      c.number_in.ensures,
      walk-number c.walk-walked.result,
      c.whole_row-row.ensures,
    )
