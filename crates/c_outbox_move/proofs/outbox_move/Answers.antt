use borrow.Author.Tests.{eq-eqb, ne_eqb}
use Rattle.c_outbox_move.specs.Calls.{outbox_move_of}
use Rattle.c_outbox_move.proofs.Told.{move-number}
use Rattle.c_outbox_move.proofs.outbox_move.Goals as goal

pub returns-then-answer-ne-MOVE_ANSWER : goal.returns-then-answer-ne-MOVE_ANSWER
unfolding outbox_move_of
returns-then-answer-ne-MOVE_ANSWER c = rw (ne_eqb _ _ c.if-answer-ne-MOVE_ANSWER.true)

pub returns : goal.returns
unfolding outbox_move_of
returns c =
    rw (
      eq-eqb _ _ c.if-answer-ne-MOVE_ANSWER.false,
      ← c.move_file-moved.ensures,
      c.put.ensures,
      c.wide64-number.ensures.0,
      c.number_in.ensures,
      move-number c.move_file-moved.result,
      c.moved_row-row.ensures,
    )
