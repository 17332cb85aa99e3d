use borrow.Author.Tests.{eq-eqb, ne_eqb}
use Rattle.c_firmware.specs.Calls.{apply_stored, apply_write_of}
use Rattle.c_firmware.proofs.calls.apply_write.Goals as goal

pub returns-then-row-ne-APPLY_ROW : goal.returns-then-row-ne-APPLY_ROW
unfolding apply_write_of
returns-then-row-ne-APPLY_ROW c = rw (ne_eqb _ _ c.if-row-ne-APPLY_ROW.true)

pub returns-then-answer-ne-WROTE_ANSWER : goal.returns-then-answer-ne-WROTE_ANSWER
unfolding apply_write_of
returns-then-answer-ne-WROTE_ANSWER c = rw (eq-eqb _ _ c.if-row-ne-APPLY_ROW.false, ne_eqb _ _ c.if-answer-ne-WROTE_ANSWER.true)

pub returns-then-bad_row : goal.returns-then-bad_row
unfolding apply_write_of apply_stored
returns-then-bad_row c =
    rw (
      eq-eqb _ _ c.if-row-ne-APPLY_ROW.false,
      eq-eqb _ _ c.if-answer-ne-WROTE_ANSWER.false,
      ← c.bad_row.ensures,
      c.if-bad_row.true,
      c.tell_wrote.ensures.0,
      c.tell_wrote.ensures.1,
    )

pub returns : goal.returns
unfolding apply_write_of apply_stored
returns c =
    rw (
      eq-eqb _ _ c.if-row-ne-APPLY_ROW.false,
      eq-eqb _ _ c.if-answer-ne-WROTE_ANSWER.false,
      ← c.bad_row.ensures,
      c.if-bad_row.false,
      ← c.apply_at-apply.ensures,
      ← c.write_apply-wrote.ensures,
      c.tell_wrote-2.ensures.0,
      c.tell_wrote-2.ensures.1,
    )
