use borrow.Author.Tests.{eq-eqb, ne_eqb}
use Rattle.c_outbox.specs.Calls.{outbox_append_of}
use Rattle.c_outbox.proofs.calls.pito_outbox_append.Goals as goal

pub returns-then-answer-ne-APPEND_ANSWER : goal.returns-then-answer-ne-APPEND_ANSWER
unfolding outbox_append_of
returns-then-answer-ne-APPEND_ANSWER c = rw (ne_eqb _ _ c.if-answer-ne-APPEND_ANSWER.true)

pub returns : goal.returns
unfolding outbox_append_of
returns c = rw (eq-eqb _ _ c.if-answer-ne-APPEND_ANSWER.false, ← c.byte_or-known.ensures, ← c.append-appended.ensures, c.tell_append.ensures.0, c.tell_append.ensures.1)
