use borrow.Author.Tests.{eq-eqb, ne_eqb}
use Rattle.c_messages.specs.Calls.{information_read_of}
use Rattle.proto_reader.specs.Refusal.{why_of}
use Rattle.c_message_rows.proofs.Readings.{number-alone}
use Rattle.c_messages.proofs.calls.information_read.Goals as goal

pub returns-then-answer-ne-INFORMATION_ANSWER : goal.returns-then-answer-ne-INFORMATION_ANSWER
unfolding information_read_of
returns-then-answer-ne-INFORMATION_ANSWER c = rw (ne_eqb _ _ c.if-answer-ne-INFORMATION_ANSWER.true)

pub returns : goal.returns
unfolding information_read_of
returns c =
    rw (
      eq-eqb _ _ c.if-answer-ne-INFORMATION_ANSWER.false,
      ← c.read_information-read.ensures.result_value,
      c.put_information.ensures,
      c.number_of_result-number.ensures,
      number-alone why_of c.read_information-read.result,
    )
