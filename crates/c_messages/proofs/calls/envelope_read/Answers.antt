use borrow.Author.Tests.{eq-eqb, ne_eqb}
use Rattle.c_messages.specs.Calls.{envelope_read_of}
use Rattle.c_messages.proofs.calls.envelope_read.Goals as goal

pub returns-then-answer-ne-ENVELOPE_ANSWER : goal.returns-then-answer-ne-ENVELOPE_ANSWER
unfolding envelope_read_of
returns-then-answer-ne-ENVELOPE_ANSWER c = rw (ne_eqb _ _ c.if-answer-ne-ENVELOPE_ANSWER.true)

pub returns : goal.returns
unfolding envelope_read_of
returns c =
    rw (
      eq-eqb _ _ c.if-answer-ne-ENVELOPE_ANSWER.false,
      ← c.read_envelope-read.ensures.result_value,
      c.put.ensures,
      c.number_of_result-number.ensures,
      c.envelope_row-row.ensures,
    )
