use borrow.Author.Tests.{eq-eqb, ne_eqb}
use Rattle.capture_reader.proofs.Placed.{number-at}
use Rattle.capture_judge.specs.Capture.{number_of}
use Rattle.c_judge.specs.Calls.{capture_why_of}
use Rattle.c_judge.proofs.calls.pito_capture_why.Goals as goal

pub returns-then-answer-ne-WHY_ANSWER : goal.returns-then-answer-ne-WHY_ANSWER
unfolding capture_why_of
returns-then-answer-ne-WHY_ANSWER c = rw (ne_eqb _ _ c.if-answer-ne-WHY_ANSWER.true)

pub returns : goal.returns
unfolding capture_why_of
returns c =
    rw (
      eq-eqb _ _ c.if-answer-ne-WHY_ANSWER.false,
      ← c.trace.ensures,
      ← c.explain-why.ensures,
      c.put.ensures,
      c.number_of_result-number.ensures,
      number-at number_of c.explain-why.result,
      c.why_row-row.ensures,
    )
