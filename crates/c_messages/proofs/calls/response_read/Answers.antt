use borrow.Author.Tests.{eq-eqb, ne_eqb}
use Rattle.c_messages.specs.Calls.{response_read_of}
use Rattle.c_messages.proofs.calls.response_read.Goals as goal

pub returns-then-answer-ne-RESPONSE_ANSWER : goal.returns-then-answer-ne-RESPONSE_ANSWER
unfolding response_read_of
returns-then-answer-ne-RESPONSE_ANSWER c = rw (ne_eqb _ _ c.if-answer-ne-RESPONSE_ANSWER.true)

pub returns : goal.returns
unfolding response_read_of
returns c =
    rw (
      eq-eqb _ _ c.if-answer-ne-RESPONSE_ANSWER.false,
      ← c.read_response-read.ensures.result_value,
      c.put.ensures,
      c.number_of_result-number.ensures,
      c.response_row-row.ensures,
    )
