use borrow.Author.Tests.{eq-eqb, ne_eqb}
use Rattle.c_text.specs.Calls.{text_of}
use Rattle.c_text.proofs.calls.pito_text.Goals as goal

pub returns-then-answer-ne-TEXT_ANSWER : goal.returns-then-answer-ne-TEXT_ANSWER
unfolding text_of
returns-then-answer-ne-TEXT_ANSWER c = rw (ne_eqb _ _ c.if-answer-ne-TEXT_ANSWER.true)

pub returns : goal.returns
unfolding text_of
returns c =
    rw (
      eq-eqb _ _ c.if-answer-ne-TEXT_ANSWER.false,
      c.put.ensures,
      c.number_by-number.ensures,
      c.hidden_place-hidden.ensures,
      c.bad_place-bad.ensures,
    )
