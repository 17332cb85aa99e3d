-- Replies worked by hand: all of it computed, and the reply that arrives by the claim itself.
use Prim.Native.Nat.{ℕ}
use native.Mathlib.Omega.{arith}
use mathlib.Core.Path.{◌≡◌, refl}
use mathlib.Core.Option.{none, some}
use mathlib.Core.Bool.{true, false}
use mathlib.Core.List.{[], ◌∷◌}
use lib.IntN.{pos, negsuc}
use lib.ListN.{get_or, drop, replicate}
use Rattle.wire.specs.declared.stream.Stream.TheVariants.{Control}
use Rattle.wire.specs.Limit.{limit_fits}
use Rattle.wire.specs.Those.{those}
use Rattle.wire.specs.Stream.{is_stream, stream_of}
use Rattle.utf8.specs.Table.{rows, within, described, row_of}
use Rattle.utf8.specs.WellFormed.{WellFormed, empty, more, sequence_at, bad_place}
use Rattle.proto_field.specs.Tag.{tag_at, bad_tag}
use Rattle.proto_field.specs.Value.{value_at}
use Rattle.proto_field.specs.Varint.{varint_at}
use Rattle.proto_writer.specs.Varint.{varint_bytes}
use Rattle.proto_writer.specs.Writer.{tag_bytes, head_bytes, part_bytes, field_bytes}
use Rattle.proto_schema.specs.Schema.{role_of}
use Rattle.proto_reader.specs.Walk.{fields_from, field_at, read_at, added_at, judged}
use Rattle.msg_control.specs.declared.envelope.Payload.TheVariants as Payload
use Rattle.msg_control.specs.Response.{response_from}
use Rattle.msg_control.specs.Envelope.{payload_of, envelope_of}
use Rattle.ble_packet.specs.Header.{in_range}
use Rattle.ble_packet.specs.Reader.{fields_of, content_of, lines, read_of}
use Rattle.ble_sender.specs.Piece.{size_for}
use Rattle.ble_sender.specs.Writer.{header_bytes, packet_of, room_fits}
use Rattle.ble_slot.specs.Slot.{lawful_slot, lawful}
use Rattle.ble_slot_steps.specs.Step.{finish, hold, drop_by, first_step, next_step}
use Rattle.ble_receiver.specs.Receiver.{ready, read_in, accept_of}
use Rattle.ble_claims.specs.Delivery.{run_of, row_after, ours, has_slot, packets_in, shown, shown_to, replies_to, all_answerable}
use Rattle.reply_parts.specs.Body.{kind_of_command}
use Rattle.wire.specs.Told.{given}
use Rattle.msg_device.specs.Features.{features_of}
use Rattle.msg_claims.specs.RoundTrip.{information_again}
use Rattle.std.specs.Prelude.{Some}
use Rattle.reply.specs.Reply.{Box, reply_of, sending_of, reply_by, joined_in, carried_of, sent_of, replied_of}
use Rattle.ble_packet_end.specs.End.{said_length}
use Rattle.reply_claims.specs.Cut.{cut_apart}
use Rattle.reply_claims.specs.Answers.{Answers, packets_cut}
use Rattle.reply_claims.specs.ReadAgain.{ResponseReads}
use Rattle.reply_claims.proofs.ReadAgain.{reply-reads}
use Rattle.reply_claims.specs.Instance.{asked, answered, ByHand, box, link, information, reply, slots, buffer, output, six, before, begun, later, after, OneReplyArrives}

pub by_hand : ByHand
unfolding asked answered replied_of sent_of carried_of joined_in reply_by kind_of_command limit_fits is_stream in_range size_for header_bytes packet_of room_fits varint_at varint_bytes bad_tag tag_at value_at tag_bytes head_bytes part_bytes field_bytes role_of judged added_at read_at field_at fields_from response_from payload_of envelope_of bad_place sequence_at row_of rows within
by_hand = refl

law : lawful 40 slots ≡ true
unfolding lawful_slot lawful
law = refl

letter : (b : ℕ) → described (b ∷ []) ≡ true → WellFormed (b ∷ [])
letter b e = more (b ∷ []) [] refl e empty

answers : Answers box (link 20 40) information (pos 20) output
unfolding reply_by kind_of_command limit_fits is_stream in_range size_for header_bytes packet_of room_fits varint_at varint_bytes bad_tag tag_at value_at tag_bytes head_bytes part_bytes field_bytes role_of judged added_at read_at field_at fields_from response_from payload_of envelope_of described rows within
answers =
    record {
      payload = Payload.None;
      reads = refl;
      question = refl;
      room = refl;
      limit = refl;
      range = refl;
      carried = refl;
      strings = (letter 0x53 refl, (letter 0x4E refl, (letter 0x54 refl, tt)));
      within = omega arith;
      space = omega arith;
    }

begins : begun.packet ≡ get_or (packets_cut (replied_of box (link 20 40) information output)) 0 []
unfolding replied_of sent_of carried_of joined_in reply_by kind_of_command limit_fits is_stream in_range size_for header_bytes packet_of room_fits varint_at varint_bytes bad_tag tag_at value_at tag_bytes head_bytes part_bytes field_bytes role_of judged added_at read_at field_at fields_from response_from payload_of envelope_of bad_place sequence_at row_of rows within said_length cut_apart
begins = refl

sent : packets_in (those (ours (sending_of (link 20 40))) later) ≡ drop 1 (packets_cut (replied_of box (link 20 40) information output))
unfolding replied_of sent_of carried_of joined_in reply_by kind_of_command limit_fits is_stream in_range size_for header_bytes packet_of room_fits varint_at varint_bytes bad_tag tag_at value_at tag_bytes head_bytes part_bytes field_bytes role_of judged added_at read_at field_at fields_from response_from payload_of envelope_of bad_place sequence_at row_of rows within said_length cut_apart
sent = refl

answerable : all_answerable (begun ∷ those (ours (sending_of (link 20 40))) later) ≡ true
answerable = refl

free : has_slot (row_after 40 slots buffer before) (sending_of (link 20 40)) ≡ true
unfolding limit_fits is_stream stream_of fields_of content_of lines read_of lawful_slot lawful finish hold drop_by first_step next_step ready read_in accept_of row_after
free = refl

arrived : shown_to 40 (sending_of (link 20 40)) (replies_to 40 slots buffer before (begun ∷ later) after)
    ≡ shown (some 1) none six ∷ shown (some 1) (some (record { stream = Control; id = 1; total = 18; ack = false; payload = reply })) six ∷ []
unfolding limit_fits is_stream stream_of fields_of content_of lines read_of lawful_slot lawful finish hold drop_by first_step next_step ready read_in accept_of run_of
arrived = refl

pub arrives : OneReplyArrives
arrives =
    record {
      law = law;
      size = refl;
      answers = answers;
      begins = begins;
      sent = sent;
      answerable = answerable;
      free = free;
      arrived = arrived;
      claimed = λ claim. claim box (link 20 40) information (pos 20) output slots buffer before begun later after answers law refl begins sent answerable free;
    }

-- ---- read again, at the ends of what a parameter of the library holds

abbrev ends : Box
ends =
    record {
      serial_number = [];
      name = [];
      transports = pos 2147483647 ∷ negsuc 2147483647 ∷ [];
      device_type = [];
      features = record { features = 18446744073709551615; device_attributes = 18446744073709551615 };
      members = record { information = 2; features = 536870911 };
    }

information-asked : Answers ends (link 64 64) information (pos 20) (replicate 64 0xEE)
unfolding reply_by kind_of_command limit_fits is_stream in_range size_for header_bytes packet_of room_fits varint_at varint_bytes bad_tag tag_at value_at tag_bytes head_bytes part_bytes field_bytes role_of judged added_at read_at field_at fields_from response_from payload_of envelope_of
information-asked =
    record { payload = Payload.None; reads = refl; question = refl; room = refl; limit = refl; range = refl; carried = refl; strings = (empty, (empty, (empty, tt))); within = omega arith; space = omega arith }

information-ends : ResponseReads (reply_of ends 20) (pos 20) (pos 0) (Some 2) (λ body. information_again body ≡ given ([], [], ends.transports, []))
information-ends = reply-reads.information ends (link 64 64) information (replicate 64 0xEE) information-asked (omega arith, (omega arith, tt))

features-asked : Answers ends (link 64 64) (0x08 ∷ 0x1C ∷ []) (pos 28) (replicate 64 0xEE)
unfolding reply_by kind_of_command limit_fits is_stream in_range size_for header_bytes packet_of room_fits varint_at varint_bytes bad_tag tag_at value_at tag_bytes head_bytes part_bytes field_bytes role_of judged added_at read_at field_at fields_from response_from payload_of envelope_of
features-asked =
    record { payload = Payload.None; reads = refl; question = refl; room = refl; limit = refl; range = refl; carried = refl; strings = tt; within = omega arith; space = omega arith }

features-ends : ResponseReads (reply_of ends 28) (pos 28) (pos 0) (Some 536870911) (λ body. features_of body ≡ given ends.features)
features-ends = reply-reads.features ends (link 64 64) (0x08 ∷ 0x1C ∷ []) (replicate 64 0xEE) features-asked (omega arith) (omega arith)
