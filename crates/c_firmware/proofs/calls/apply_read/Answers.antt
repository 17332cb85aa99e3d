use borrow.Author.Tests.{eq-eqb, ne_eqb}
use Rattle.c_firmware.specs.Calls.{apply_read_of}
use Rattle.proto_reader.specs.Refusal.{why_of}
use Rattle.c_message_rows.proofs.Readings.{number-alone}
use Rattle.c_firmware.proofs.calls.apply_read.Goals as goal

pub returns-then-answer-ne-APPLY_ANSWER : goal.returns-then-answer-ne-APPLY_ANSWER
unfolding apply_read_of
returns-then-answer-ne-APPLY_ANSWER c = rw (ne_eqb _ _ c.if-answer-ne-APPLY_ANSWER.true)

pub returns : goal.returns
unfolding apply_read_of
returns c =
    rw (
      eq-eqb _ _ c.if-answer-ne-APPLY_ANSWER.false,
      ← c.read_apply-read.ensures.result_value,
      c.put_apply.ensures,
      c.number_of_result-number.ensures,
      number-alone why_of c.read_apply-read.result,
    )
