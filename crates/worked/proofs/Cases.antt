-- The table of worked cases holds: computed over the whole table, then turned into the rule at each row.
use mathlib.Core.Path.{◌≡◌, refl}
use mathlib.Core.List.{map}
use Rattle.wire.specs.Stream.{is_stream, stream_of}
use Rattle.wire.specs.Limit.{limit_fits}
use Rattle.classic_frame.specs.Mark.{kind_of}
use Rattle.classic_frame.specs.Frame.{escaped_of, sum_of, framed}
use Rattle.ble_packet.specs.Header.{in_range}
use Rattle.ble_packet.specs.Reader.{fields_of, content_of, lines, read_of}
use Rattle.ble_ack.specs.Acknowledgement.{ack_of}
use Rattle.ble_sender.specs.Piece.{size_for}
use Rattle.ble_sender.specs.Writer.{header_bytes, packet_of, room_fits, arguments_fit, written_of}
use Rattle.ble_sender_claims.specs.Calls.{calls_from}
use Rattle.ble_slot.specs.Slot.{lawful_slot, lawful}
use Rattle.ble_slot_steps.specs.Step.{finish, hold, drop_by, first_step, next_step}
use Rattle.ble_receiver.specs.Receiver.{ready, read_in, accept_of}
use Rattle.proto_field.specs.Varint.{varint_at}
use Rattle.proto_writer.specs.Varint.{varint_bytes}
use Rattle.proto_field.specs.Tag.{bad_tag, tag_at}
use Rattle.proto_field.specs.Value.{value_at}
use Rattle.proto_writer.specs.Writer.{tag_bytes, head_bytes, part_bytes, field_bytes}
use Rattle.proto_schema.specs.Schema.{role_of}
use Rattle.proto_reader.specs.Walk.{judged, added_at, read_at, field_at, fields_from}
use Rattle.msg_control.specs.Response.{response_from}
use Rattle.msg_control.specs.Envelope.{payload_of, envelope_of, envelope_written}
use Rattle.outbox.specs.Format.{is_one, format_of, number_of, bytes_of, record_bytes}
use Rattle.outbox.specs.Reader as outbox
use Rattle.outbox.specs.Writer.{bad_record, append_of}
use Rattle.worked_extractor.proofs.Rows.{agree}
use Rattle.worked.specs.Question.{answer_to}
use Rattle.worked.specs.Cases.{Case, cases, WorkedCases}

-- the whole table, computed
holds : map (λ (c : Case). answer_to c.question) cases ≡ map (λ (c : Case). c.expected) cases
unfolding answer_to cases limit_fits is_stream stream_of kind_of escaped_of sum_of framed in_range fields_of content_of lines read_of ack_of size_for header_bytes packet_of room_fits arguments_fit written_of calls_from lawful_slot lawful finish hold drop_by first_step next_step ready read_in accept_of varint_at varint_bytes bad_tag tag_at value_at tag_bytes head_bytes part_bytes field_bytes role_of judged added_at read_at field_at fields_from response_from payload_of envelope_of envelope_written is_one format_of number_of outbox.other_version outbox.bad_place outbox.bad_length outbox.cut_short outbox.bad_stream outbox.record_at outbox.read_of outbox.readings outbox.read_all outbox.walk_of bytes_of record_bytes bad_record append_of
holds = refl

pub worked-cases : WorkedCases
worked-cases a = agree (λ (c : Case). answer_to c.question) (λ (c : Case). c.expected) a holds
