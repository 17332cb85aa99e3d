-- The claim that the sizes that the C header names are enough: with that much output every writer takes what is in its range. The ranges are the
-- header's own numbers, as a caller gives them.
use Rattle.std.specs.Prelude.{ℕ, zero, suc, ◌+◌, ◌*◌, ◌≤◌, ◌<◌, ◌≡◌, ◌⊎◌, true, List, ◌∷◌, map, ℤ, length, take, get_or}
use Rattle.wire.specs.Told as told
use Rattle.ble_packet.specs.Control.{ack_size}
use Rattle.classic_writer.specs.Sending.{NoMark}
use Rattle.ble_sender.specs.Writer.{begins, found_at}
use Rattle.proto_field.specs.Signed.{extended}
use Rattle.proto_field.specs.Value.{bytes_of}
use Rattle.utf8.specs.WellFormed.{WellFormed}
use Rattle.msg_control.specs.declared.envelope.Envelope.{Envelope}
use Rattle.msg_control.specs.Envelope.{envelope_of}
use Rattle.msg_device.specs.declared.features.DeviceFeatures.{DeviceFeatures}
use Rattle.reply_parts.specs.declared.body.Members.{Members}
use Rattle.outbox.specs.Format.{Format, version_one, version_two, Known, format_of, head_size, first_place}
use Rattle.outbox.specs.Reader.{given, read_all, walk_of}
use Rattle.outbox_move.specs.Moves.{over_from}
use Rattle.msg_claims.specs.RoundTrip.{MemberNumber}
use Rattle.msg_claims.specs.Premises.{InSigned32, AllInSigned32}
use Rattle.msg_firmware_claims.specs.RoundTrip.{Unsigned32}
use Rattle.msg_firmware_claims.specs.Premises.{Digits}
use Rattle.c_rows.specs.Called.{Called}
use Rattle.c_classic.specs.Calls.{frame_write_of}
use Rattle.c_sending.specs.Convert.{sending_of}
use Rattle.c_sending.specs.Calls.{packet_write_of, ack_write_of}
use Rattle.c_message_rows.specs.Convert.{payload_for}
use Rattle.c_messages.specs.Calls.{envelope_write_of, response_write_of, information_write_of, features_write_of}
use Rattle.reply.specs.Reply.{box_of, reply_of}
use Rattle.c_reply.specs.Convert.{link_of, transports_for}
use Rattle.c_reply.specs.Calls.{reply_write_of}
use Rattle.c_firmware.specs.Calls.{segment_write_of, apply_read_of, apply_write_of}
use Rattle.c_outbox.specs.Calls.{outbox_new_of, outbox_append_of}
use Rattle.c_outbox_move.specs.Calls.{outbox_move_of}

-- PITO_FRAME_SIZE
abbrev pub frame_size : ℕ → ℕ
frame_size n = 2 * n + 9

-- PITO_ENVELOPE_SIZE
abbrev pub envelope_size : ℕ → ℕ
envelope_size n = n + 53

-- PITO_RESPONSE_SIZE
abbrev pub response_size : ℕ → ℕ
response_size n = n + 31

-- PITO_INFORMATION_SIZE
abbrev pub information_size : ℕ → ℕ → ℕ → ℕ
information_size a b c = a + b + c + 124

-- PITO_FEATURES_SIZE
abbrev pub features_size : ℕ
features_size = 22

-- PITO_REPLY_SIZE
abbrev pub reply_size : ℕ → ℕ → ℕ → ℕ
reply_size a b c = 2 * (a + b + c) + 360

-- PITO_SEGMENT_SIZE
abbrev pub segment_size : ℕ → ℕ
segment_size n = n + 97

-- PITO_APPLY_SIZE
abbrev pub apply_size : ℕ → ℕ → ℕ
apply_size components strings = 55 * components + strings + 66

-- PITO_RECORD_SIZE
abbrev pub record_size : ℕ → ℕ
record_size n = n + 5

-- nothing is refused
abbrev pub Done : Called → Type 0
Done c = c.number ≡ 0

abbrev pub StreamNumber : ℕ → Type 0
StreamNumber n = (n ≡ 0) ⊎ (n ≡ 2) ⊎ (n ≡ 6)

-- 0, or the number of a response's payload
abbrev pub PayloadField : ℕ → Type 0
PayloadField n = (n ≡ 0) ⊎ MemberNumber n

-- the row of an ApplyFirmware, by its places: a part whose start stands at a place lies within the texts and is well formed
abbrev pub LiesAt : List ℕ → List ℕ → ℕ → Type 0
LiesAt texts row at =
    (get_or row at 0 + get_or row (at + 1) 0 ≤ length texts) × WellFormed (bytes_of texts (record { start = get_or row at 0; len = get_or row (at + 1) 0 }))

-- version, name, size and signature of this many components from a place on
abbrev pub ComponentsFit : ℕ → List ℕ → List ℕ → ℕ → Type 0
ComponentsFit zero texts row at = Unit {0}
ComponentsFit (suc n) texts row at =
    (Unsigned32 (get_or row at 0) × LiesAt texts row (at + 1) × Unsigned32 (get_or row (at + 3) 0) × LiesAt texts row (at + 4)) × ComponentsFit n texts row (at + 6)

-- the lengths of their strings together
abbrev pub strings_from : ℕ → List ℕ → ℕ → ℕ
strings_from zero row at = 0
strings_from (suc n) row at = get_or row (at + 2) 0 + get_or row (at + 5) 0 + strings_from n row (at + 6)

-- restart_required, version, name, locale, version_name, the number of components, and those components
pub record RowFits (texts row : List ℕ) : Type 0 where
  pub restart : get_or row 0 0 ≤ 1
  pub version : Unsigned32 (get_or row 1 0)
  pub name : LiesAt texts row 2
  pub locale : LiesAt texts row 4
  pub version-name : LiesAt texts row 6
  pub most : get_or row 8 0 ≤ 8
  pub components : ComponentsFit (get_or row 8 0) texts row 9

abbrev pub strings_of : List ℕ → ℕ
strings_of row = get_or row 3 0 + get_or row 5 0 + get_or row 7 0 + strings_from (get_or row 8 0) row 9

pub record SizesSuffice : Type 0 where
  pub frame-write : (limit sequence : ℕ) (payload out answer : List ℕ) → length answer ≡ 1
      → 1 ≤ limit → limit ≤ 65535 → sequence < 256 → NoMark sequence → length payload ≤ limit → frame_size (length payload) ≤ length out
      → Done (frame_write_of limit sequence payload out answer)
  -- at each place where a piece begins
  pub packet-write : (limit room stream id sequence ack place : ℕ) (message out answer : List ℕ) → length answer ≡ 2
      → 20 ≤ room → room ≤ 512 → 1 ≤ limit → limit ≤ 65535 → StreamNumber stream → id ≤ 15 → sequence ≤ 15 → ack ≤ 1 → length message ≤ limit
      → begins (found_at (sending_of room stream id sequence ack) (length message) place) ≡ true → room ≤ length out
      → Done (packet_write_of limit (sending_of room stream id sequence ack) message place out answer)
  -- .. the first of them at 0
  pub packet-first : (limit room stream id sequence ack : ℕ) (message out answer : List ℕ) → length answer ≡ 2
      → 20 ≤ room → room ≤ 512 → 1 ≤ limit → limit ≤ 65535 → StreamNumber stream → id ≤ 15 → sequence ≤ 15 → ack ≤ 1 → length message ≤ limit → room ≤ length out
      → Done (packet_write_of limit (sending_of room stream id sequence ack) message 0 out answer)
  pub ack-write : (stream id sequence positive : ℕ) (out answer : List ℕ) → length answer ≡ 1
      → StreamNumber stream → id ≤ 15 → sequence ≤ 15 → positive ≤ 1 → ack_size ≤ length out
      → Done (ack_write_of stream id sequence positive out answer)
  -- no payload, whatever stands for it; a response; another member, which is not 9
  pub envelope-none : (command : ℤ) (code field : ℕ) (bytes out answer : List ℕ) → length answer ≡ 1
      → InSigned32 command → envelope_size (length bytes) ≤ length out
      → Done (envelope_write_of (extended command) (payload_for (extended command) 0 code field) bytes out answer)
  pub envelope-response : (command code : ℤ) (field : ℕ) (bytes out answer : List ℕ) → length answer ≡ 1
      → InSigned32 command → InSigned32 code → PayloadField field → envelope_size (length bytes) ≤ length out
      → Done (envelope_write_of (extended command) (payload_for (extended command) 1 (extended code) field) bytes out answer)
  pub envelope-member : (command : ℤ) (code field : ℕ) (bytes out answer : List ℕ) → length answer ≡ 1
      → InSigned32 command → MemberNumber field → (field ≡ 9 → ⊥) → envelope_size (length bytes) ≤ length out
      → Done (envelope_write_of (extended command) (payload_for (extended command) 2 code field) bytes out answer)
  pub response-write : (code : ℤ) (field : ℕ) (bytes out answer : List ℕ) → length answer ≡ 1
      → InSigned32 code → PayloadField field → response_size (length bytes) ≤ length out
      → Done (response_write_of (extended code) field bytes out answer)
  pub information-write : (serial_number name device_type : List ℕ) (transports : List ℤ) (out answer : List ℕ) → length answer ≡ 3
      → AllInSigned32 transports → length transports ≤ 8 → WellFormed serial_number → WellFormed name → WellFormed device_type
      → information_size (length serial_number) (length name) (length device_type) ≤ length out
      → Done (information_write_of serial_number name device_type (map extended transports) out answer)
  pub features-write : (features attributes : ℕ) (out answer : List ℕ) → length answer ≡ 1 → features_size ≤ length out
      → Done (features_write_of features attributes out answer)
  -- to every envelope, at each room and each limit that holds the reply itself
  pub reply-write : (message serial_number name device_type : List ℕ) (transports : List ℤ) (features : DeviceFeatures) (members : Members)
      (room limit id sequence : ℕ) (e : Envelope) (out answer : List ℕ) → length answer ≡ 3 → envelope_of message ≡ told.given e
      → 20 ≤ room → room ≤ 512 → 1 ≤ limit → limit ≤ 65535 → id ≤ 15 → sequence ≤ 15 → MemberNumber members.information → MemberNumber members.features
      → AllInSigned32 transports → length transports ≤ 8 → WellFormed serial_number → WellFormed name → WellFormed device_type
      → length (reply_of (box_of serial_number name (transports_for (map extended transports)) device_type features members) (extended e.command)) ≤ limit
      → reply_size (length serial_number) (length name) (length device_type) ≤ length out
      → Done (reply_write_of message serial_number name device_type (map extended transports) features members (link_of room limit id sequence) out answer)
  -- an offset of 0, and 64 hexadecimal digits
  pub segment-write : (name : List ℕ) (size : ℕ) (signature out answer : List ℕ) → length answer ≡ 3
      → WellFormed name → Unsigned32 size → length signature ≡ 64 → Digits signature → segment_size (length name) ≤ length out
      → Done (segment_write_of name 0 size signature out answer)
  pub apply-write : (row texts out answer : List ℕ) → length row ≡ 57 → length answer ≡ 3
      → RowFits texts row → apply_size (get_or row 8 0) (strings_of row) ≤ length out
      → Done (apply_write_of row texts out answer)
  -- .. of a row that was told, with the message as its texts
  pub apply-told : (message told out answer : List ℕ) → let c = apply_read_of message told in let row = take 57 c.answer in
      c.number ≡ 0 → length answer ≡ 3 → apply_size (get_or row 8 0) (strings_of row) ≤ length out
      → Done (apply_write_of row message out answer)
  pub outbox-new : (out answer : List ℕ) → length answer ≡ 1 → 1 ≤ length out → Done (outbox_new_of out answer)
  -- after used bytes that are a whole outbox of either version
  pub outbox-append : (used stream : ℕ) (buffer payload answer : List ℕ) → length answer ≡ 2
      → let fmt = format_of (take used buffer) in
      walk_of fmt (take used buffer) ≡ given tt
      → StreamNumber stream → length payload ≤ fmt.limit → used + (head_size fmt + length payload) ≤ length buffer
      → Done (outbox_append_of buffer used stream payload answer)
  -- .. as a version byte alone is
  pub outbox-append-first : (fmt : Format) → Known fmt → (stream : ℕ) (rest payload answer : List ℕ) → length answer ≡ 2
      → StreamNumber stream → length payload ≤ fmt.limit → 1 + (head_size fmt + length payload) ≤ length (fmt.version ∷ rest)
      → Done (outbox_append_of (fmt.version ∷ rest) 1 stream payload answer)
  -- the header's size is enough for a record of either
  pub record-size : (fmt : Format) → Known fmt → (n : ℕ) → head_size fmt + n ≤ record_size n
  -- a whole outbox goes to 02 in twice its bytes, to 01 in its own if no record is refused by 46, and is copied in its own
  pub outbox-to-two : (file out answer : List ℕ) → length answer ≡ 2 → walk_of (format_of file) file ≡ given tt
      → 2 * length file ≤ length out
      → Done (outbox_move_of version_two file out answer)
  pub outbox-to-one : (file out answer : List ℕ) → length answer ≡ 2 → walk_of (format_of file) file ≡ given tt
      → over_from 4096 first_place (read_all (format_of file) file) ≡ given tt → length file ≤ length out
      → Done (outbox_move_of version_one file out answer)
  pub outbox-copy : (file out answer : List ℕ) → length answer ≡ 2 → walk_of (format_of file) file ≡ given tt → length file ≤ length out
      → Done (outbox_move_of (format_of file) file out answer)
