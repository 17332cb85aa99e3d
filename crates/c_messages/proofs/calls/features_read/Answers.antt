use borrow.Author.Tests.{eq-eqb, ne_eqb}
use Rattle.c_messages.specs.Calls.{features_read_of}
use Rattle.c_messages.proofs.calls.features_read.Goals as goal

pub returns-then-answer-ne-FEATURES_ANSWER : goal.returns-then-answer-ne-FEATURES_ANSWER
unfolding features_read_of
returns-then-answer-ne-FEATURES_ANSWER c = rw (ne_eqb _ _ c.if-answer-ne-FEATURES_ANSWER.true)

pub returns : goal.returns
unfolding features_read_of
returns c =
    rw (
      eq-eqb _ _ c.if-answer-ne-FEATURES_ANSWER.false,
      ← c.read_features-read.ensures,
      c.put.ensures,
      c.number_of_result-number.ensures,
      c.features_row-row.ensures,
    )
