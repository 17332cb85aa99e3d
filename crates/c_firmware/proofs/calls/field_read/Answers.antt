use borrow.Author.Tests.{eq-eqb, ne_eqb}
use Rattle.proto_field.specs.Fields.{told_found}
use Rattle.c_firmware.specs.Calls.{field_read_of}
use Rattle.c_firmware_rows.proofs.Fields.{row-length}
use Rattle.c_firmware.proofs.calls.field_read.Goals as goal

pub returns-then-answer-ne-FIELD_ANSWER : goal.returns-then-answer-ne-FIELD_ANSWER
unfolding field_read_of
returns-then-answer-ne-FIELD_ANSWER c = rw (ne_eqb _ _ c.if-answer-ne-FIELD_ANSWER.true)

pub put-requires : goal.put-requires
put-requires c = rw (c.found_row-told.ensures, row-length (told_found c.found_at.result)) c.if-answer-ne-FIELD_ANSWER.false

pub returns : goal.returns
unfolding field_read_of
returns c =
    rw (eq-eqb _ _ c.if-answer-ne-FIELD_ANSWER.false, c.put.ensures, c.found_row-told.ensures, c.found_at.ensures.0)
