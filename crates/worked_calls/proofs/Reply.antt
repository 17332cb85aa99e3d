-- The reply to a control transaction, called from C, by computation.
use mathlib.Core.Path.{refl}
use Rattle.c_reply.specs.Calls.{reply_write_of}
use Rattle.c_reply.specs.Convert.{few_signed, link_of}
use Rattle.msg_control.specs.Envelope.{envelope_of, payload_of}
use Rattle.msg_control.specs.Response.{response_from}
use Rattle.proto_field.specs.Tag.{bad_tag, tag_at}
use Rattle.proto_field.specs.Value.{value_at}
use Rattle.proto_field.specs.Varint.{varint_at}
use Rattle.proto_writer.specs.Varint.{varint_bytes}
use Rattle.proto_writer.specs.Writer.{field_bytes, head_bytes, part_bytes, tag_bytes}
use Rattle.proto_schema.specs.Schema.{role_of}
use Rattle.ble_packet.specs.Header.{in_range}
use Rattle.reply.specs.Reply.{carried_of, joined_in, replied_of, reply_by, sent_of}
use Rattle.reply_parts.specs.Body.{kind_of_command}
use Rattle.c_rows.specs.Row.{byte_or}
use Rattle.c_message_rows.specs.Convert.{all_signed, is_signed}
use Rattle.ble_sender.specs.Piece.{size_for}
use Rattle.ble_sender.specs.Writer.{header_bytes, packet_of, room_fits}
use Rattle.utf8.specs.Table.{row_of, rows, within}
use Rattle.utf8.specs.WellFormed.{bad_place, sequence_at}
use Rattle.proto_reader.specs.Gathered.{with_transport}
use Rattle.proto_reader.specs.Walk.{added_at, entry_at, field_at, fields_from, judged, packed_from, read_at, with_string}
use Rattle.wire.specs.Limit.{limit_fits}
use Rattle.wire.specs.Stream.{is_stream}
use Rattle.worked_calls.specs.Reply.{ReplyCalls, reply_rows}

pub reply-calls : ReplyCalls
unfolding ReplyCalls reply_rows reply_write_of few_signed link_of envelope_of payload_of response_from bad_tag tag_at value_at varint_at varint_bytes field_bytes head_bytes part_bytes tag_bytes role_of in_range carried_of joined_in replied_of reply_by sent_of kind_of_command byte_or all_signed is_signed size_for header_bytes packet_of room_fits row_of rows within bad_place sequence_at with_transport added_at entry_at field_at fields_from judged packed_from read_at with_string limit_fits is_stream
reply-calls = refl
