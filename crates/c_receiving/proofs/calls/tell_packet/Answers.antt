use borrow.Author.Tests.{eq-eqb, ne_eqb}
use Rattle.c_receiving.specs.Calls.{told_row}
use Rattle.c_receiving.proofs.calls.tell_packet.Goals as goal

pub returns-then-answer-eq-ANSWER : goal.returns-then-answer-eq-ANSWER
unfolding told_row
returns-then-answer-eq-ANSWER c =
    rw (
      eq-eqb _ _ c.if-answer-eq-ANSWER.true,
      c.put.ensures,
      c.number_of_result-number.ensures,
      c.answer_row-row.ensures,
    )

pub returns-else-answer-eq-ANSWER : goal.returns-else-answer-eq-ANSWER
unfolding told_row
returns-else-answer-eq-ANSWER c = rw (ne_eqb _ _ c.if-answer-eq-ANSWER.false, c.number_of_result-number.ensures)
