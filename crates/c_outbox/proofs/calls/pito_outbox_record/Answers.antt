use borrow.Author.Tests.{eq-eqb, ne_eqb}
use Rattle.c_outbox.specs.Calls.{outbox_record_of}
use Rattle.c_outbox.proofs.calls.pito_outbox_record.Goals as goal

pub returns-then-answer-ne-RECORD_ANSWER : goal.returns-then-answer-ne-RECORD_ANSWER
unfolding outbox_record_of
returns-then-answer-ne-RECORD_ANSWER c = rw (ne_eqb _ _ c.if-answer-ne-RECORD_ANSWER.true)

pub returns : goal.returns
unfolding outbox_record_of
returns c =
    rw (
      eq-eqb _ _ c.if-answer-ne-RECORD_ANSWER.false,
      ← c.read-reading.ensures,
      c.tell_record.ensures.0,
      c.tell_record.ensures.1,
    )
