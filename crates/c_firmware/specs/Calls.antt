-- Firmware messages and single fields for C: the calls of the readers and writers.
use Rattle.std.specs.Prelude.{ℕ, cond, ◌||◌, List, [], length, eqb}
use Rattle.wire.specs.Told.{refused, written, WrittenOf}
use Rattle.proto_field.specs.Unsigned.{unsigned_of}
use Rattle.proto_field.specs.Fields.{found_at}
use Rattle.proto_reader.specs.Refusal.{number_more}
use Rattle.msg_firmware.specs.Segment.{segment_of}
use Rattle.msg_segment_writer.specs.Segment.{segment_written}
use Rattle.msg_firmware.specs.Apply.{apply_of}
use Rattle.msg_apply_writer.specs.Apply.{apply_written}
use Rattle.c_rows.specs.Row.{number_told}
use Rattle.c_rows.specs.Called.{Called, if_fit, answers}
use Rattle.c_message_rows.specs.Convert.{text_call}
use Rattle.c_firmware_rows.specs.More.{is_wide}
use Rattle.c_firmware_rows.specs.Segment.{segment_row}
use Rattle.c_firmware_rows.specs.Apply.{row_size, answer_size, apply_row, bad_row, apply_at}
use Rattle.c_firmware_rows.specs.FieldRow.{row_told}

unfoldable pub segment_read_of : List ℕ → List ℕ → Called
segment_read_of message answer = answers 8 answer [] (number_more (segment_of message)) [] (segment_row (segment_of message))

-- an offset or size above 32 bits is out of range: 15; any other is its own low 32 bits
unfoldable pub segment_stored : List ℕ → ℕ → ℕ → List ℕ → List ℕ → WrittenOf (ℕ × List ℕ) ℕ
segment_stored name offset size signature out =
    cond (is_wide offset || is_wide size) (written (refused (15, [])) out) (segment_written name (unsigned_of offset) (unsigned_of size) signature out)

unfoldable pub segment_write_of : List ℕ → ℕ → ℕ → List ℕ → List ℕ → List ℕ → Called
segment_write_of name offset size signature out answer =
    text_call out answer (segment_stored name offset size signature out)

unfoldable pub apply_read_of : List ℕ → List ℕ → Called
apply_read_of message answer = answers answer_size answer [] (number_more (apply_of message)) [] (apply_row (apply_of message))

-- a row whose numbers no message has is out of range: 15
unfoldable pub apply_stored : List ℕ → List ℕ → List ℕ → WrittenOf (ℕ × List ℕ) ℕ
apply_stored row texts out = cond (bad_row row) (written (refused (15, [])) out) (apply_written (apply_at row) texts out)

unfoldable pub apply_write_of : List ℕ → List ℕ → List ℕ → List ℕ → Called
apply_write_of row texts out answer =
    if_fit (eqb (length row) row_size) [] out answer (text_call out answer (apply_stored row texts out))

unfoldable pub field_read_of : List ℕ → ℕ → List ℕ → Called
field_read_of message place answer = answers 7 answer [] (number_told (found_at message place)) [] (row_told (found_at message place))
