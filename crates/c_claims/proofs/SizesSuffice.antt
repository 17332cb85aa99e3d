-- With the sizes that the header names every writer takes what is in its range.
use Prim.Native.Nat.{ℕ, ◌+◌, ◌-◌, ◌*◌, ◌/◌, ◌%◌, ◌≤◌, ◌<◌}
use mathlib.Core.Path.{◌≡◌, refl, sym, ap, subst}
use mathlib.Core.Logic.{inl, inr}
use mathlib.Core.Bool.{Bool, true, false, cond, not, ◌||◌}
use mathlib.Core.List.{List, [], ◌∷◌, map}
use native.Mathlib.Nat.{zero-add}
use native.Mathlib.Omega.{arith}
use lib.IntN.{ℤ}
use lib.ListN.{length, take, get_or, length-append, length-map}
use lib.Seq.{sets}
use lib.Dec.{eqb, ltb}
use borrow.Author.Tests.{eq-eqb, ne_eqb, lt-ltb, le-ltb, le-leb}
use Rattle.wire.specs.Told.{given, Written, WrittenOf, written, line, writes}
use Rattle.wire.specs.Limit.{limit_fits}
use Rattle.wire.proofs.Streams.{known-stream}
use Rattle.wire.proofs.Limits.{range-limit}
use Rattle.proto_field.specs.Signed.{signed_of, extended}
use Rattle.proto_field.specs.Tag.{varint_type, length_type}
use Rattle.proto_writer.specs.Writer.{Field, message_bytes}
use Rattle.classic_frame.specs.Mark.{start_mark, is_mark}
use Rattle.classic_frame.specs.Frame.{frame_of, checksum_of}
use Rattle.classic_writer.specs.Sending.{NoMark}
use Rattle.classic_writer.specs.Writer.{write_of}
use Rattle.classic_writer.proofs.Escaping.{frame-most}
use Rattle.classic_writer.proofs.Sending.{no-mark}
use Rattle.ble_packet.specs.Header.{in_range}
use Rattle.ble_packet.specs.Control.{ack_size, ack_bytes}
use Rattle.ble_packet.proofs.Headers.{in-range}
use Rattle.ble_ack.specs.Acknowledgement.{ack_of}
use Rattle.ble_sender.specs.Piece.{least_room, largest_room}
use Rattle.ble_sender.specs.Writer.{found_at, begins, arguments_fit, written_of, room_fits}
use Rattle.msg_control.specs.declared.envelope.EnvelopePayload.{EnvelopePayload}
use Rattle.msg_control.specs.declared.envelope.EnvelopePayload.TheVariants as envelope
use Rattle.std.specs.Prelude.{Option, Some, None}
use Rattle.msg_device.specs.declared.features.DeviceFeatures.{DeviceFeatures}
use Rattle.proto_reader.specs.Gathered.{most_transports}
use Rattle.proto_schema.specs.Schema.{command_field, response_field, error_code_field, serial_number_field, name_field, transports_field, device_type_field, features_field, device_attributes_field, component_name_field, segment_size_field, segment_signature_field}
use Rattle.proto_writer.specs.Message.{writes_message}
use Rattle.proto_writer.proofs.Messages.{wrote}
use Rattle.utf8.specs.WellFormed.{WellFormed}
use Rattle.proto_strings.specs.Texts.{AllWellFormed, writes_texts}
use Rattle.proto_strings.proofs.Texts.{well-faultless, texts-wrote}
use Rattle.msg_control.specs.declared.envelope.Envelope.{Envelope}
use Rattle.msg_control.specs.Envelope.{bad_payload, envelope_of, envelope_fields, envelope_written}
use Rattle.msg_control.specs.Response.{bad_response_payload, response_fields, response_written}
use Rattle.msg_device.specs.Information.{information_strings, information_fields, information_written}
use Rattle.msg_device.specs.Features.{features_fields, features_written}
use Rattle.msg_firmware.specs.Segment.{broken_field}
use Rattle.msg_segment_writer.specs.Segment.{segment_strings, segment_fields, segment_filled, segment_written}
use Rattle.msg_apply_writer.specs.Information.{bad_firmware, firmware_strings}
use Rattle.msg_apply_writer.specs.Apply.{apply_fields, apply_written}
use Rattle.msg_segment_writer.proofs.Segments.{segment-length, segment-clean}
use Rattle.msg_firmware_claims.specs.RoundTrip.{Unsigned32}
use Rattle.msg_firmware_claims.specs.Premises.{Digits}
use Rattle.msg_firmware_claims.proofs.Premises.{signature, digits-well}
use Rattle.msg_firmware_claims.proofs.Segments.{unsigned-trip}
use Rattle.outbox.specs.Format.{Format, version_one, version_two, Known, one, two, is_one, format_of, head_size, record_bytes, first_place}
use Rattle.outbox.specs.Reader as outbox
use Rattle.outbox.specs.Reader.{walk_of}
use Rattle.outbox.specs.Writer.{new_of, bad_record, append_of}
use Rattle.outbox.proofs.Versions.{known_small, format-known}
use Rattle.outbox.proofs.Walk.{whole-version}
use Rattle.outbox.proofs.Stored.{length-record}
use Rattle.outbox_claims.proofs.Run.{all-run}
use Rattle.outbox_move.specs.Moves.{over_from, moved_to, move_of}
use Rattle.outbox_move_claims.specs.Claims.{records_of}
use Rattle.outbox_move_claims.proofs.Rebuilt.{within, own-short}
use Rattle.outbox_move_claims.proofs.Premises.{short-more}
use Rattle.outbox_move_claims.proofs.Sizes.{moved-most}
use Rattle.msg_claims.specs.RoundTrip.{MemberNumber}
use Rattle.msg_claims.specs.Premises.{InSigned32, AllInSigned32}
use Rattle.msg_claims.proofs.Premises.{signed}
use Rattle.msg_claims.proofs.Values.{signed-trip}
use Rattle.msg_claims.proofs.RoundTrip.{member-fine}
use Rattle.c_rows.specs.Row.{number_told, byte_or, out_of_range}
use Rattle.c_rows.specs.Called.{Called, if_fit, writer_call}
use Rattle.c_classic.specs.Calls.{frame_write_of}
use Rattle.c_sending.specs.Convert.{stream_with, sending_of}
use Rattle.c_sending.specs.Calls.{packet_write_of, ack_write_of}
use Rattle.c_message_rows.specs.Convert.{is_signed, all_signed, response_payload_of, payload_for, text_call}
use Rattle.c_messages.specs.Calls.{envelope_write_of, response_write_of, information_write_of, features_write_of}
use Rattle.proto_reader.specs.Refusal.{number_more}
use Rattle.ble_joined.specs.Joined.{joined_of}
use Rattle.reply.specs.declared.Link.{Link}
use Rattle.reply_parts.specs.declared.body.Members.{Members}
use Rattle.reply_parts.specs.declared.body.CommandKind.{CommandKind}
use Rattle.reply_parts.specs.declared.body.CommandKind.TheVariants.{Information, Features, Bare, Other}
use Rattle.reply.specs.Reply as reply
use Rattle.reply_parts.specs.Body.{kind_of_command, code_of, body_by, strings_by}
use Rattle.reply.specs.Reply.{Box, box_of, member_of, reply_by, reply_of, bad_carried, Replied, silent, joined_in, carried_of, sent_of, is_response, replied_of}
use Rattle.c_reply.specs.Convert.{link_of, few_signed, transports_for}
use Rattle.c_reply.specs.Calls.{reply_write_of}
use Rattle.c_firmware_rows.specs.Apply.{apply_at}
use Rattle.c_firmware.specs.Calls.{segment_stored, segment_write_of, apply_stored, apply_read_of, apply_write_of}
use Rattle.c_outbox.specs.Calls.{outbox_new_of, outbox_append_of}
use Rattle.c_outbox_move.specs.Calls.{outbox_move_of}
use Rattle.c_claims.specs.SizesSuffice.{Done, StreamNumber, PayloadField, RowFits, strings_of, SizesSuffice, frame_size, envelope_size, response_size, information_size, features_size, reply_size, segment_size, apply_size}
use Rattle.c_claims.proofs.Sizes.{scalar-most, text-most, nested-most, packed-most, tag-most, tag_small}
use Rattle.c_claims.proofs.Replies.{joined-most}
use Rattle.c_claims.proofs.Told.{told-fits}
use Rattle.c_claims.proofs.Applies.{not_wide, row_fine, firmware-fine, strings-fine, apply-most}

-- an answer row of the right length
fit-done : (size : ℕ) (state lent answer : List ℕ) (done : Called) → length answer ≡ size → Done done
    → Done (if_fit (eqb (length answer) size) state lent answer done)
fit-done size state lent answer done e k = rw (eq-eqb (length answer) size e) k

-- the table of a writer with two lines: 15, and 14 where the output is smaller than what is written
done-two : {A : Type 0} (bad : Bool) (need : ℕ) (out : List ℕ) (a : A) (after : List ℕ) → bad ≡ false → need ≤ length out
    → number_told (writes (line 15 bad ∷ line 14 (ltb (length out) need) ∷ []) a out after).told ≡ 0
done-two bad need out a after e h = rw (e, le-ltb (length out) need h)

writer-done : (out answer : List ℕ) (w : Written ℕ) → length answer ≡ 1 → number_told w.told ≡ 0 → Done (writer_call out answer w)
writer-done out answer w e k = fit-done 1 [] out answer _ e k

message-done : (bad : Bool) (fields : List Field) (out answer : List ℕ) → length answer ≡ 1 → bad ≡ false
    → length (message_bytes fields) ≤ length out → Done (writer_call out answer (writes_message bad fields out))
message-done bad fields out answer l e h =
    let bytes = message_bytes fields in
    writer-done out answer (writes_message bad fields out) l (done-two bad (length bytes) out (length bytes) (sets out 0 bytes) e h)

texts-done : (bad : Bool) (strings : List (ℕ × List ℕ)) (fields : List Field) (out answer : List ℕ) → length answer ≡ 3 → bad ≡ false → AllWellFormed strings
    → length (message_bytes fields) ≤ length out → Done (text_call out answer (writes_texts bad strings fields out))
texts-done bad strings fields out answer l e well h =
    let bytes = message_bytes fields in
    let w = wrote bad fields out {n = length bytes} {l = sets out 0 bytes} e h (record { place = sym (zero-add (length bytes)); stored = refl }) in
    subst (λ (w : WrittenOf (ℕ × List ℕ) ℕ). Done (text_call out answer w)) (texts-wrote bad strings fields out (given (length bytes)) (sets out 0 bytes) e (well-faultless strings well) w)
    (fit-done 3 [] out answer _ l refl)

-- ---- frames and packets

byte-is : (other n : ℕ) → n < 256 → byte_or other n ≡ n
unfolding byte_or
byte-is other n h = rw (lt-ltb n 256 h)

frame-done : (limit sequence : ℕ) (payload out answer : List ℕ) → length answer ≡ 1
    → 1 ≤ limit → limit ≤ 65535 → sequence < 256 → NoMark sequence → length payload ≤ limit → frame_size (length payload) ≤ length out
    → Done (frame_write_of limit sequence payload out answer)
unfolding frame_write_of
frame-done limit sequence payload out answer l some most b m n h =
    rw (byte-is start_mark sequence b)
    (writer-done out answer (write_of limit sequence payload out) l
    (rw (range-limit limit some most)
    (done-two (is_mark sequence || ltb limit (length payload)) (length (frame_of sequence payload)) out
    (length (frame_of sequence payload)) (sets out 0 (frame_of sequence payload))
    (rw (no-mark sequence m, le-ltb limit (length payload) n))
    (omega (arith, frame-most sequence payload (checksum_of payload / 256) (checksum_of payload % 256))))))

stream-byte : (n : ℕ) → StreamNumber n → n < 256
stream-byte n (inl e) = omega arith
stream-byte n (inr (inl e)) = omega arith
stream-byte n (inr (inr e)) = omega arith

-- a wish of 0 or 1 leaves the stream as it is
stream-with : (wish stream : ℕ) → wish ≤ 1 → StreamNumber stream → stream_with wish stream ≡ stream
unfolding stream_with
stream-with wish stream w s = rw (lt-ltb wish 2 (omega arith)) (byte-is out_of_range stream (stream-byte stream s))

args_fit : (stream id sequence ack : ℕ) → StreamNumber stream → id ≤ 15 → sequence ≤ 15 → ack ≤ 1
    → in_range (stream_with ack stream) (byte_or out_of_range id) (byte_or out_of_range sequence) ≡ true
args_fit stream id sequence ack s i q a =
    rw (stream-with ack stream a s, byte-is out_of_range id (omega arith), byte-is out_of_range sequence (omega arith))
    (in-range stream id sequence s i q)

packet-done : (limit room stream id sequence ack place : ℕ) (message out answer : List ℕ) → length answer ≡ 2
    → 20 ≤ room → room ≤ 512 → 1 ≤ limit → limit ≤ 65535 → StreamNumber stream → id ≤ 15 → sequence ≤ 15 → ack ≤ 1 → length message ≤ limit
    → begins (found_at (sending_of room stream id sequence ack) (length message) place) ≡ true → room ≤ length out
    → Done (packet_write_of limit (sending_of room stream id sequence ack) message place out answer)
unfolding packet_write_of written_of sending_of room_fits arguments_fit
packet-done limit room stream id sequence ack place message out answer l low high least most s i q a m b h =
    fit-done 2 [] out answer _ l
    (rw (
      le-leb least_room room (omega arith),
      le-leb room largest_room (omega arith),
      range-limit limit least most,
      args_fit stream id sequence ack s i q a,
      le-leb (length message) limit m,
      b,
      le-ltb (length out) room (omega arith),
    ))

ack-done : (stream id sequence positive : ℕ) (out answer : List ℕ) → length answer ≡ 1
    → StreamNumber stream → id ≤ 15 → sequence ≤ 15 → positive ≤ 1 → ack_size ≤ length out
    → Done (ack_write_of stream id sequence positive out answer)
unfolding ack_write_of ack_of
ack-done stream id sequence positive out answer l s i q p h =
    let known = stream_with positive stream in
    let low = byte_or out_of_range id in
    let next = byte_or out_of_range sequence in
    writer-done out answer (ack_of known low next (eqb positive 1) out) l
    (done-two (not (in_range known low next)) ack_size out ack_size (sets out 0 (ack_bytes known low next (eqb positive 1))) (rw (args_fit stream id sequence positive s i q p)) h)

-- ---- messages

response-most : (code : ℕ) (payload : Option ℕ) (bytes : List ℕ)
    → length (message_bytes (response_fields code payload bytes)) ≤ response_size (length bytes)
response-most code None bytes =
    rw length-append (omega (arith, scalar-most error_code_field code, tag_small error_code_field varint_type refl))
response-most code (Some field) bytes =
    rw (length-append, length-append)
    (omega (arith, scalar-most error_code_field code, tag_small error_code_field varint_type refl, nested-most field bytes, tag-most field length_type))

envelope-most : (command : ℕ) (payload : EnvelopePayload) (bytes : List ℕ)
    → length (message_bytes (envelope_fields command payload bytes)) ≤ envelope_size (length bytes)
envelope-most command envelope.None bytes =
    rw length-append (omega (arith, scalar-most command_field command, tag_small command_field varint_type refl))
envelope-most command (envelope.Response code payload) bytes =
    let inner = message_bytes (response_fields (extended code) payload bytes) in
    rw (length-append, length-append)
    (omega (arith, scalar-most command_field command, tag_small command_field varint_type refl, nested-most response_field inner, tag_small response_field length_type refl, response-most (extended code) payload bytes))
envelope-most command (envelope.Member field) bytes =
    rw (length-append, length-append)
    (omega (arith, scalar-most command_field command, tag_small command_field varint_type refl, nested-most field bytes, tag-most field length_type))

is-signed : (z : ℤ) → InSigned32 z → is_signed (extended z) ≡ true
unfolding is_signed
is-signed z h = eq-eqb _ _ (ap extended (signed-trip z (signed z h)))

all-are-signed : (zs : List ℤ) → AllInSigned32 zs → all_signed (map extended zs) ≡ true
unfolding all_signed
all-are-signed [] h = refl
all-are-signed (z ∷ zs) h = rw (is-signed z h.0, all-are-signed zs h.1)

payload-fine : (code : ℤ) (field : ℕ) → InSigned32 code → PayloadField field → bad_response_payload (response_payload_of (extended code) field) ≡ false
unfolding response_payload_of
payload-fine code field h (inl e) = rw (is-signed code h, e)
payload-fine code field h (inr m) = rw (is-signed code h, ne_eqb field 0 (λ e. absurd (omega (arith, m.0, e)))) (member-fine field m)

envelope-by : (command : ℕ) (payload : EnvelopePayload) (bytes out answer : List ℕ) → length answer ≡ 1
    → bad_payload payload ≡ false → envelope_size (length bytes) ≤ length out
    → Done (envelope_write_of command payload bytes out answer)
unfolding envelope_write_of envelope_written
envelope-by command payload bytes out answer l b h =
    message-done (bad_payload payload) (envelope_fields (extended (signed_of command)) payload bytes) out answer l b
    (omega (arith, envelope-most (extended (signed_of command)) payload bytes))

none-fine : (command : ℤ) (code field : ℕ) → InSigned32 command → bad_payload (payload_for (extended command) 0 code field) ≡ false
unfolding payload_for
none-fine command code field c = rw (is-signed command c)

envelope-none : (command : ℤ) (code field : ℕ) (bytes out answer : List ℕ) → length answer ≡ 1
    → InSigned32 command → envelope_size (length bytes) ≤ length out
    → Done (envelope_write_of (extended command) (payload_for (extended command) 0 code field) bytes out answer)
envelope-none command code field bytes out answer l c h =
    envelope-by (extended command) _ bytes out answer l (none-fine command code field c) h

response-fine : (command code : ℤ) (field : ℕ) → InSigned32 command → InSigned32 code → PayloadField field
    → bad_payload (payload_for (extended command) 1 (extended code) field) ≡ false
unfolding payload_for
response-fine command code field c k f = rw (is-signed command c) (payload-fine code field k f)

envelope-response : (command code : ℤ) (field : ℕ) (bytes out answer : List ℕ) → length answer ≡ 1
    → InSigned32 command → InSigned32 code → PayloadField field → envelope_size (length bytes) ≤ length out
    → Done (envelope_write_of (extended command) (payload_for (extended command) 1 (extended code) field) bytes out answer)
envelope-response command code field bytes out answer l c k f h =
    envelope-by (extended command) _ bytes out answer l (response-fine command code field c k f) h

other-fine : (command : ℤ) (code field : ℕ) → InSigned32 command → MemberNumber field → (field ≡ 9 → ⊥)
    → bad_payload (payload_for (extended command) 2 code field) ≡ false
unfolding payload_for
other-fine command code field c m other = rw (is-signed command c, member-fine field m, ne_eqb field response_field other)

envelope-member : (command : ℤ) (code field : ℕ) (bytes out answer : List ℕ) → length answer ≡ 1
    → InSigned32 command → MemberNumber field → (field ≡ 9 → ⊥) → envelope_size (length bytes) ≤ length out
    → Done (envelope_write_of (extended command) (payload_for (extended command) 2 code field) bytes out answer)
envelope-member command code field bytes out answer l c m other h =
    envelope-by (extended command) _ bytes out answer l (other-fine command code field c m other) h

response-done : (code : ℤ) (field : ℕ) (bytes out answer : List ℕ) → length answer ≡ 1
    → InSigned32 code → PayloadField field → response_size (length bytes) ≤ length out
    → Done (response_write_of (extended code) field bytes out answer)
unfolding response_write_of response_written
response-done code field bytes out answer l c f h =
    let payload = response_payload_of (extended code) field in
    message-done (bad_response_payload payload) (response_fields (extended (signed_of (extended code))) payload bytes) out answer l (payload-fine code field c f)
    (omega (arith, response-most (extended (signed_of (extended code))) payload bytes))

features-most : (f : DeviceFeatures) → length (message_bytes (features_fields f)) ≤ features_size
features-most f =
    rw (length-append, length-append)
    (omega (
      arith,
      scalar-most features_field f.features,
      tag_small features_field varint_type refl,
      scalar-most device_attributes_field f.device_attributes,
      tag_small device_attributes_field varint_type refl,
    ))

features-done : (features attributes : ℕ) (out answer : List ℕ) → length answer ≡ 1 → features_size ≤ length out
    → Done (features_write_of features attributes out answer)
unfolding features_write_of features_written
features-done features attributes out answer l h =
    let f : DeviceFeatures = record { features = features; device_attributes = attributes } in
    message-done false (features_fields f) out answer l refl (omega (arith, features-most f))

information-most : (serial_number name : List ℕ) (transports : List ℤ) (device_type : List ℕ) → length transports ≤ most_transports
    → length (message_bytes (information_fields serial_number name transports device_type)) ≤ information_size (length serial_number) (length name) (length device_type)
information-most serial_number name transports device_type h =
    rw (length-append, length-append, length-append, length-append)
    (omega (
      arith,
      text-most serial_number_field serial_number,
      tag_small serial_number_field length_type refl,
      text-most name_field name,
      tag_small name_field length_type refl,
      packed-most transports_field (map extended transports),
      tag_small transports_field length_type refl,
      length-map transports extended,
      text-most device_type_field device_type,
      tag_small device_type_field length_type refl,
    ))

information-done : (serial_number name device_type : List ℕ) (transports : List ℤ) (out answer : List ℕ) → length answer ≡ 3
    → AllInSigned32 transports → length transports ≤ 8 → WellFormed serial_number → WellFormed name → WellFormed device_type
    → information_size (length serial_number) (length name) (length device_type) ≤ length out
    → Done (information_write_of serial_number name device_type (map extended transports) out answer)
unfolding information_write_of information_written
information-done serial_number name device_type transports out answer l e few well₁ well₂ well₃ h =
    let listed = map signed_of (map extended transports) in
    let most : length listed ≤ most_transports = rw (length-map (map extended transports) signed_of, length-map transports extended) few in
    rw (all-are-signed transports e)
    (texts-done (ltb most_transports (length listed)) (information_strings serial_number name device_type) (information_fields serial_number name listed device_type) out answer l
    (le-ltb most_transports (length listed) most) (well₁, (well₂, (well₃, tt))) (omega (arith, information-most serial_number name listed device_type most)))

-- ---- the reply

body-most : (serial_number name : List ℕ) (transports : List ℤ) (device_type : List ℕ) (f : DeviceFeatures) (kind : CommandKind) → length transports ≤ most_transports
    → length (body_by serial_number name transports device_type f kind) ≤ information_size (length serial_number) (length name) (length device_type)
body-most serial_number name transports device_type f Information few = information-most serial_number name transports device_type few
body-most serial_number name transports device_type f Features few = omega (arith, features-most f)
body-most serial_number name transports device_type f Bare few = omega arith
body-most serial_number name transports device_type f Other few = omega arith

reply-most : (v : ℕ) (kind : CommandKind) (m : Members) (body : List ℕ) → length (reply_by v kind m body) ≤ envelope_size (length body)
unfolding reply_by
reply-most v kind m body = envelope-most v (envelope.Response (code_of kind) (member_of m kind)) body

carried-fine : (m : Members) (count : ℕ) (kind : CommandKind) → MemberNumber m.information → MemberNumber m.features → count ≤ most_transports
    → bad_carried m count kind ≡ false
carried-fine m count Information i f few = rw (member-fine m.information i, le-ltb most_transports count few)
carried-fine m count Features i f few = member-fine m.features f
carried-fine m count Bare i f few = refl
carried-fine m count Other i f few = refl

carried-well : (serial_number name device_type : List ℕ) (kind : CommandKind) → WellFormed serial_number → WellFormed name → WellFormed device_type
    → AllWellFormed (strings_by serial_number name device_type kind)
carried-well serial_number name device_type Information s n t = (s, (n, (t, tt)))
carried-well serial_number name device_type Features s n t = tt
carried-well serial_number name device_type Bare s n t = tt
carried-well serial_number name device_type Other s n t = tt

few-transports : (transports : List ℤ) → AllInSigned32 transports → length transports ≤ 8 → length (transports_for (map extended transports)) ≤ most_transports
unfolding few_signed
few-transports transports e few =
    rw (
      length-map transports extended,
      le-ltb most_transports (length transports) few,
      all-are-signed transports e,
      length-map (map extended transports) signed_of,
      length-map transports extended,
    )
    few

-- a question in its ranges is answered
module _ (b : Box) (l : Link) (v : ℕ) (out : List ℕ) where
  joined-done : length (joined_of (reply.sending_of l) (reply_of b v)) ≤ length out → number_more (joined_in (reply.sending_of l) (reply_of b v) out).told ≡ 0
  unfolding joined_in
  joined-done space = rw (le-ltb (length out) (length (joined_of (reply.sending_of l) (reply_of b v))) space)

  carried-done : length (reply_of b v) ≤ l.limit → AllWellFormed (reply.strings_of b (kind_of_command v))
      → length (joined_of (reply.sending_of l) (reply_of b v)) ≤ length out → number_more (carried_of b l v (kind_of_command v) out).told ≡ 0
  unfolding carried_of
  carried-done within strings space =
      rw (le-ltb l.limit (length (reply_of b v)) within, well-faultless (reply.strings_of b (kind_of_command v)) strings) (joined-done space)

  sent-done : room_fits l.room ≡ true → limit_fits l.limit ≡ true → in_range 0 l.id l.sequence ≡ true
      → bad_carried b.members (length b.transports) (kind_of_command v) ≡ false → length (reply_of b v) ≤ l.limit → AllWellFormed (reply.strings_of b (kind_of_command v))
      → length (joined_of (reply.sending_of l) (reply_of b v)) ≤ length out → number_more (sent_of b l v out).told ≡ 0
  unfolding sent_of
  sent-done room limit range carried within strings space = rw (room, limit, range, carried) (carried-done within strings space)

silent-done : (response : Bool) (out : List ℕ) (w : WrittenOf (ℕ × List ℕ) Replied) → number_more w.told ≡ 0
    → let x : WrittenOf (ℕ × List ℕ) Replied = cond response (written (given silent) out) w in number_more x.told ≡ 0
silent-done true out w k = refl
silent-done false out w k = k

link-is : (room limit id sequence : ℕ) → id ≤ 15 → sequence ≤ 15 → link_of room limit id sequence ≡ record { room = room; limit = limit; id = id; sequence = sequence }
unfolding link_of
link-is room limit id sequence i q = rw (byte-is out_of_range id (omega arith), byte-is out_of_range sequence (omega arith))

room-is : (room : ℕ) → 20 ≤ room → room ≤ 512 → room_fits room ≡ true
unfolding room_fits
room-is room low high = rw (le-leb least_room room low, le-leb room largest_room high)

reply-done : (message serial_number name device_type : List ℕ) (transports : List ℤ) (features : DeviceFeatures) (members : Members)
    (room limit id sequence : ℕ) (e : Envelope) (out answer : List ℕ) → length answer ≡ 3 → envelope_of message ≡ given e
    → 20 ≤ room → room ≤ 512 → 1 ≤ limit → limit ≤ 65535 → id ≤ 15 → sequence ≤ 15 → MemberNumber members.information → MemberNumber members.features
    → AllInSigned32 transports → length transports ≤ 8 → WellFormed serial_number → WellFormed name → WellFormed device_type
    → length (reply_of (box_of serial_number name (transports_for (map extended transports)) device_type features members) (extended e.command)) ≤ limit
    → reply_size (length serial_number) (length name) (length device_type) ≤ length out
    → Done (reply_write_of message serial_number name device_type (map extended transports) features members (link_of room limit id sequence) out answer)
unfolding reply_write_of replied_of
reply-done message serial_number name device_type transports features members room limit id sequence e out answer l reads low high least most i q im fm n few s nm t within h =
    let listed = transports_for (map extended transports) in
    let b : Box = box_of serial_number name listed device_type features members in
    let k : Link = record { room = room; limit = limit; id = id; sequence = sequence } in
    let v = extended e.command in
    let kind = kind_of_command v in
    let fewer : length listed ≤ most_transports = few-transports transports n few in
    let body = body-most serial_number name listed device_type features kind fewer in
    let whole = reply-most v kind members (reply.body_of b kind) in
    let joined = joined-most (reply.sending_of k) (reply_of b v) low in
    fit-done 3 [] out answer _ l
    (rw (link-is room limit id sequence i q, reads)
    (silent-done (is_response e.payload) out (sent_of b k v out)
    (sent-done b k v out (room-is room low high) (range-limit limit least most) (in-range 0 id sequence (inl refl) i q)
    (carried-fine members (length listed) kind im fm fewer) within (carried-well serial_number name device_type kind s nm t) (omega (arith, body, whole, joined)))))

segment-most : (name : List ℕ) (size : ℕ) (signature : List ℕ) → length signature ≡ 64
    → length (message_bytes (segment_fields name 0 size signature)) ≤ segment_size (length name)
segment-most name size signature h =
    omega (
      arith,
      h,
      segment-length name size signature,
      text-most component_name_field name,
      tag_small component_name_field length_type refl,
      scalar-most segment_size_field size,
      tag_small segment_size_field varint_type refl,
      text-most segment_signature_field signature,
      tag_small segment_signature_field length_type refl,
    )

segment-done : (name : List ℕ) (size : ℕ) (signature out answer : List ℕ) → length answer ≡ 3
    → WellFormed name → Unsigned32 size → length signature ≡ 64 → Digits signature → segment_size (length name) ≤ length out
    → Done (segment_write_of name 0 size signature out answer)
unfolding segment_write_of segment_stored segment_filled broken_field
segment-done name size sig out answer l well n long digits h =
    let clean : segment_written name 0 size sig out ≡ segment_filled name 0 size sig out =
    sym (segment-clean name 0 size sig out (well-faultless (segment_strings name sig) (well, (digits-well sig digits, tt))) refl)
    in
    fit-done 3 [] out answer _ l
    (rw (
      not_wide 0 (omega arith),
      not_wide size n,
      unsigned-trip size n,
      clean,
      signature sig long digits,
      le-ltb (length out) (length (message_bytes (segment_fields name 0 size sig))) (omega (arith, segment-most name size sig long)),
    ))

apply-done : (row texts out answer : List ℕ) → length row ≡ 57 → length answer ≡ 3
    → RowFits texts row → apply_size (get_or row 8 0) (strings_of row) ≤ length out
    → Done (apply_write_of row texts out answer)
unfolding apply_write_of apply_stored apply_written
apply-done row texts out answer whole l fits h =
    let a = apply_at row in
    rw (eq-eqb (length row) 57 whole, row_fine texts row fits)
    (texts-done (bad_firmware texts a.firmware_information) (firmware_strings texts a.firmware_information) (apply_fields texts a) out answer l (firmware-fine texts row fits) (strings-fine texts row fits)
    (omega (arith, apply-most texts row fits)))

new-done : (out answer : List ℕ) → length answer ≡ 1 → 1 ≤ length out → Done (outbox_new_of out answer)
unfolding outbox_new_of new_of
new-done out answer l h = fit-done 1 [] out answer _ l (rw (le-ltb (length out) 1 h))

append-done : (used stream : ℕ) (buffer payload answer : List ℕ) → length answer ≡ 2
    → let fmt = format_of (take used buffer) in
    walk_of fmt (take used buffer) ≡ outbox.given tt
    → StreamNumber stream → length payload ≤ fmt.limit → used + (head_size fmt + length payload) ≤ length buffer
    → Done (outbox_append_of buffer used stream payload answer)
unfolding outbox_append_of append_of bad_record
append-done used stream buffer payload answer l whole s short room =
    let fmt = format_of (take used buffer) in
    fit-done 2 [] buffer answer _ l
    (rw (
      byte-is out_of_range stream (stream-byte stream s),
      le-ltb (length buffer) used (omega arith),
      whole-version fmt (take used buffer) whole,
      known-stream stream s,
      le-ltb fmt.limit (length payload) short,
      le-ltb (length buffer - used) (length (record_bytes fmt stream payload)) (rw length-record (omega arith)),
      whole,
    ))

-- a version byte alone is a whole outbox
first_done : (fmt : Format) → Known fmt → (stream : ℕ) (rest payload answer : List ℕ) → length answer ≡ 2
    → StreamNumber stream → length payload ≤ fmt.limit → 1 + (head_size fmt + length payload) ≤ length (fmt.version ∷ rest)
    → Done (outbox_append_of (fmt.version ∷ rest) 1 stream payload answer)
unfolding is_one format_of walk_of outbox.read_all outbox.readings outbox.read_of outbox.other_version outbox.bad_place
first_done fmt one stream rest payload answer l s short room = append-done 1 stream (1 ∷ rest) payload answer l refl s short room
first_done fmt two stream rest payload answer l s short room = append-done 1 stream (2 ∷ rest) payload answer l refl s short room

-- ---- a row that was told

told-done : (message told out answer : List ℕ) → let c = apply_read_of message told in let row = take 57 c.answer in
    c.number ≡ 0 → length answer ≡ 3 → apply_size (get_or row 8 0) (strings_of row) ≤ length out → Done (apply_write_of row message out answer)
told-done message told out answer e l h =
    let row = take 57 (apply_read_of message told).answer in
    let fits : (length row ≡ 57) × RowFits message row = told-fits message told e in
    apply-done row message out answer fits.0 l fits.1 h

-- ---- outboxes moved

move-done : (times : ℕ) → 1 ≤ times → (wished : Format) (file out answer : List ℕ) → ((n : ℕ) → head_size wished + n ≤ times * (head_size (format_of file) + n))
    → length answer ≡ 2 → walk_of (format_of file) file ≡ outbox.given tt → over_from wished.limit first_place (outbox.read_all (format_of file) file) ≡ outbox.given tt
    → times * length file ≤ length out → Done (outbox_move_of wished file out answer)
unfolding outbox_move_of move_of
move-done times some wished file out answer grows l whole short h =
    let fmt = format_of file in
    fit-done 2 [] out answer _ l
    (rw (
      whole,
      short,
      le-ltb (length out) (length (moved_to wished fmt file)) (omega (arith, moved-most times some wished fmt grows file whole)),
    ))

-- no record is over a limit that is at least its own version's
not-over : (limit : ℕ) (file : List ℕ) → (format_of file).limit ≤ limit → walk_of (format_of file) file ≡ outbox.given tt
    → over_from limit first_place (outbox.read_all (format_of file) file) ≡ outbox.given tt
not-over limit file h whole =
    let run = all-run (format_of file) file (whole-version (format_of file) file whole) in
    within limit (format_of file) file run (short-more (format_of file).limit limit h (records_of file) (own-short (format_of file) file run))

two-done : (file out answer : List ℕ) → length answer ≡ 2 → walk_of (format_of file) file ≡ outbox.given tt → 2 * length file ≤ length out
    → Done (outbox_move_of version_two file out answer)
two-done file out answer l whole h =
    let small = known_small (format_of file) (format-known file) in
    move-done 2 (omega arith) version_two file out answer (λ n. omega (arith, small.0)) l whole (not-over 65535 file small.2 whole) h

one-done : (file out answer : List ℕ) → length answer ≡ 2 → walk_of (format_of file) file ≡ outbox.given tt
    → over_from 4096 first_place (outbox.read_all (format_of file) file) ≡ outbox.given tt → length file ≤ length out
    → Done (outbox_move_of version_one file out answer)
one-done file out answer l whole short h =
    let small = known_small (format_of file) (format-known file) in
    move-done 1 (omega arith) version_one file out answer (λ n. omega (arith, small.0)) l whole short (omega arith)

copy_done : (file out answer : List ℕ) → length answer ≡ 2 → walk_of (format_of file) file ≡ outbox.given tt → length file ≤ length out
    → Done (outbox_move_of (format_of file) file out answer)
copy_done file out answer l whole h =
    move-done 1 (omega arith) (format_of file) file out answer (λ n. omega arith) l whole (not-over (format_of file).limit file (omega arith) whole) (omega arith)

pub sizes-suffice : SizesSuffice
sizes-suffice = record {
  frame-write = frame-done;
  packet-write = packet-done;
  packet-first = λ limit room stream id sequence ack message out answer l low high least most s i q a m h.
      packet-done limit room stream id sequence ack 0 message out answer l low high least most s i q a m refl (omega arith);
  ack-write = ack-done;
  envelope-none = envelope-none;
  envelope-response = envelope-response;
  envelope-member = envelope-member;
  response-write = response-done;
  information-write = information-done;
  features-write = features-done;
  reply-write = reply-done;
  segment-write = segment-done;
  apply-write = apply-done;
  apply-told = told-done;
  outbox-new = new-done;
  outbox-append = append-done;
  outbox-append-first = first_done;
  record-size = λ fmt known n. omega (arith, (known_small fmt known).1);
  outbox-to-two = two-done;
  outbox-to-one = one-done;
  outbox-copy = copy_done;
}
