-- Control messages, called from C, by computation.
use mathlib.Core.Path.{refl}
use Rattle.c_messages.specs.Calls.{envelope_read_of, envelope_write_of, features_read_of, features_write_of, information_read_of, information_write_of, response_read_of, response_write_of}
use Rattle.msg_control.specs.Envelope.{envelope_of, envelope_written, payload_of}
use Rattle.msg_control.specs.Response.{response_from, response_written}
use Rattle.msg_device.specs.Features.{features_of, features_written}
use Rattle.msg_device.specs.Information.{information_of, information_written}
use Rattle.proto_field.specs.Tag.{bad_tag, tag_at}
use Rattle.proto_field.specs.Value.{value_at}
use Rattle.proto_field.specs.Varint.{varint_at}
use Rattle.proto_writer.specs.Varint.{varint_bytes}
use Rattle.proto_writer.specs.Writer.{field_bytes, head_bytes, part_bytes, tag_bytes}
use Rattle.proto_schema.specs.Schema.{role_of}
use Rattle.c_message_rows.specs.Convert.{all_signed, is_signed, payload_for, response_payload_of}
use Rattle.utf8.specs.Table.{row_of, rows, within}
use Rattle.utf8.specs.WellFormed.{bad_place, sequence_at}
use Rattle.proto_reader.specs.Gathered.{with_transport}
use Rattle.proto_reader.specs.Walk.{added_at, entry_at, field_at, fields_from, judged, packed_from, read_at, with_string}
use Rattle.worked_calls.specs.Messages.{MessageCalls, messages_rows}

pub message-calls : MessageCalls
unfolding MessageCalls messages_rows envelope_read_of envelope_write_of features_read_of features_write_of information_read_of information_write_of response_read_of response_write_of envelope_of envelope_written payload_of response_from response_written features_of features_written information_of information_written bad_tag tag_at value_at varint_at varint_bytes field_bytes head_bytes part_bytes tag_bytes role_of all_signed is_signed payload_for response_payload_of row_of rows within bad_place sequence_at with_transport added_at entry_at field_at fields_from judged packed_from read_at with_string
message-calls = refl
