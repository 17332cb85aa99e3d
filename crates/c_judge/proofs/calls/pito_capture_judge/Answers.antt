use borrow.Author.Tests.{eq-eqb, ne_eqb}
use Rattle.capture_reader.specs.Capture.{told_at}
use Rattle.capture_reader.proofs.Placed.{number-at, number-then}
use Rattle.capture_judge.specs.Capture.{number_of, answer_told}
use Rattle.c_judge.specs.Calls.{capture_judge_of}
use Rattle.c_judge.proofs.calls.pito_capture_judge.Goals as goal

pub returns-then-answer-ne-JUDGE_ANSWER : goal.returns-then-answer-ne-JUDGE_ANSWER
unfolding capture_judge_of
returns-then-answer-ne-JUDGE_ANSWER c = rw (ne_eqb _ _ c.if-answer-ne-JUDGE_ANSWER.true)

pub returns : goal.returns
unfolding capture_judge_of
returns c =
    rw (
      eq-eqb _ _ c.if-answer-ne-JUDGE_ANSWER.false,
      ← c.judge_capture-judged.ensures,
      c.put.ensures,
      c.number_of_result-number.ensures,
      number-at number_of c.judge_capture-judged.result,
      ← number-then (told_at number_of c.judge_capture-judged.result) (λ verdict. answer_told verdict),
      c.judged_row-row.ensures,
    )
