use Rattle.proto_field.proofs.SignedNumbers.{signed-kept}
use borrow.Author.Tests.{eq-eqb, ne_eqb}
use Rattle.c_messages.specs.Calls.{response_write_of}
use Rattle.c_messages.proofs.calls.response_write.Goals as goal

pub returns-then-answer-ne-COUNT_ANSWER : goal.returns-then-answer-ne-COUNT_ANSWER
unfolding response_write_of
returns-then-answer-ne-COUNT_ANSWER c = rw (ne_eqb _ _ c.if-answer-ne-COUNT_ANSWER.true)

pub returns : goal.returns
unfolding response_write_of
returns c =
    rw (
      eq-eqb _ _ c.if-answer-ne-COUNT_ANSWER.false,
      ← c.response_payload-wanted.ensures,
      ← (signed-kept _ c.args.error_code c.low_signed.ensures),
      ← c.write_response-wrote.ensures,
      c.tell.ensures.0,
      c.tell.ensures.1,
      c.told.ensures,
    )
