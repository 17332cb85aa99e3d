use borrow.Author.Tests.{eq-eqb, ne_eqb}
use Rattle.msg_firmware.specs.Segment.{segment_why}
use Rattle.c_message_rows.proofs.Readings.{number-alone}
use Rattle.c_firmware.specs.Calls.{segment_read_of}
use Rattle.c_firmware.proofs.calls.segment_read.Goals as goal

pub returns-then-answer-ne-SEGMENT_ANSWER : goal.returns-then-answer-ne-SEGMENT_ANSWER
unfolding segment_read_of
returns-then-answer-ne-SEGMENT_ANSWER c = rw (ne_eqb _ _ c.if-answer-ne-SEGMENT_ANSWER.true)

pub returns : goal.returns
unfolding segment_read_of
returns c = rw (eq-eqb _ _ c.if-answer-ne-SEGMENT_ANSWER.false, ← c.read_segment-read.ensures.result_value, c.put.ensures, c.number_of_result-number.ensures, number-alone segment_why c.read_segment-read.result, c.segment_row-row.ensures)
