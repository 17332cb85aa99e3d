use borrow.Author.Tests.{eq-eqb, ne_eqb}
use Rattle.c_firmware.specs.Calls.{segment_stored, segment_write_of}
use Rattle.c_firmware.proofs.calls.segment_write.Goals as goal

pub returns-then-answer-ne-WROTE_ANSWER : goal.returns-then-answer-ne-WROTE_ANSWER
unfolding segment_write_of
returns-then-answer-ne-WROTE_ANSWER c = rw (ne_eqb _ _ c.if-answer-ne-WROTE_ANSWER.true)

pub returns-then-either : goal.returns-then-either
unfolding segment_write_of segment_stored
returns-then-either c = rw (eq-eqb _ _ c.if-answer-ne-WROTE_ANSWER.false, ← c.is_wide.ensures, ← c.is_wide-2.ensures, ← c.either.ensures, c.if-either.true, c.tell_wrote.ensures.0, c.tell_wrote.ensures.1)

pub returns : goal.returns
unfolding segment_write_of segment_stored
returns c = rw (eq-eqb _ _ c.if-answer-ne-WROTE_ANSWER.false, ← c.is_wide.ensures, ← c.is_wide-2.ensures, ← c.either.ensures, c.if-either.false, ← c.low_unsigned.ensures, ← c.low_unsigned-2.ensures, ← c.write_segment-wrote.ensures, c.tell_wrote-2.ensures.0, c.tell_wrote-2.ensures.1)
