-- The reply to a finished control transaction, and what writing it tells and leaves.
use Rattle.std.specs.Prelude.{ℕ, Bool, true, false, cond, not, ◌||◌, List, [], ◌∷◌, ℤ, length, ltb, Option, Some, None}
use Rattle.std.proofs.lemmas.List.Edits.{sets}
use Rattle.wire.specs.Limit.{limit_fits}
use Rattle.wire.specs.Told.{Told, given, refused, Line, line, table, WrittenOf, written}
use Rattle.ble_packet.specs.Header.{in_range}
use Rattle.ble_sender.specs.declared.writer.Sending.{Sending}
use Rattle.ble_sender.specs.Writer.{room_fits}
use Rattle.ble_joined.specs.Joined.{joined_of}
use Rattle.proto_field.specs.Signed.{extended}
use Rattle.proto_writer.specs.Writer.{message_bytes}
use Rattle.proto_writer.specs.Message.{bad_member}
use Rattle.proto_strings.specs.Texts.{first_fault, faulted}
use Rattle.proto_reader.specs.Gathered.{most_transports}
use Rattle.msg_control.specs.declared.envelope.Envelope.{Envelope}
use Rattle.msg_control.specs.declared.envelope.Payload.{Payload}
use Rattle.msg_control.specs.declared.envelope.EnvelopePayload.TheVariants as Sent
use Rattle.msg_control.specs.Envelope.{envelope_of, envelope_fields}
use Rattle.msg_device.specs.declared.features.DeviceFeatures.{DeviceFeatures}
use Rattle.reply_parts.specs.declared.body.CommandKind.{CommandKind}
use Rattle.reply_parts.specs.declared.body.CommandKind.TheVariants.{Information, Features, Bare, Other}
use Rattle.reply_parts.specs.declared.body.Members.{Members}
use Rattle.reply_parts.specs.declared.body.OwnBox.{OwnBox}
use Rattle.reply_parts.specs.Body.{kind_of_command, code_of, body_by, strings_by}
use Rattle.reply.specs.declared.Link.{Link}

-- ---- what a device says of itself, and the link

pub record Box : Type 0 where
  pub serial_number : List ℕ
  pub name : List ℕ
  pub transports : List ℤ
  pub device_type : List ℕ
  pub features : DeviceFeatures
  -- the numbers of the response's members, from Amazon's schema
  pub members : Members

abbrev pub box_of : List ℕ → List ℕ → List ℤ → List ℕ → DeviceFeatures → Members → Box
box_of serial_number name transports device_type features members =
    record { serial_number = serial_number; name = name; transports = transports; device_type = device_type; features = features; members = members }

-- the same, of what is lent
abbrev pub box_lent : OwnBox → Box
box_lent b =
    box_of b.information.serial_number.now b.information.name.now b.information.transports.now b.information.device_type.now b.features b.members

-- the control stream is stream 0; no ACK is wanted
abbrev pub sending_of : Link → Sending
sending_of l = record { room = l.room; stream = 0; id = l.id; sequence = l.sequence; ack = false }

-- ---- the reply to a command

-- the number of the response's member
abbrev pub member_of : Members → CommandKind → Option ℕ
member_of m Information = Some m.information
member_of m Features = Some m.features
member_of m Bare = None
member_of m Other = None

-- the bytes of its member
abbrev pub body_of : Box → CommandKind → List ℕ
body_of b kind = body_by b.serial_number b.name b.transports b.device_type b.features kind

-- the bytes of a reply of a kind: an envelope of the same command with a response
unfoldable pub reply_by : ℕ → CommandKind → Members → List ℕ → List ℕ
reply_by v kind m body = message_bytes (envelope_fields v (Sent.Response (code_of kind) (member_of m kind)) body)

abbrev pub reply_of : Box → ℕ → List ℕ
reply_of b v = reply_by v (kind_of_command v) b.members (body_of b (kind_of_command v))

-- ---- the refusals: only what the reply carries is judged

-- a member's number that is carried is out of its range, or more transports than eight are carried
abbrev pub bad_carried : Members → ℕ → CommandKind → Bool
bad_carried m count Information = bad_member m.information || ltb most_transports count
bad_carried m count Features = bad_member m.features
bad_carried m count Bare = false
bad_carried m count Other = false

-- the strings that are carried, in writing order
abbrev pub strings_of : Box → CommandKind → List (ℕ × List ℕ)
strings_of b kind = strings_by b.serial_number b.name b.device_type kind

-- room, limit, then the arguments that do not look at the reply
abbrev pub link_lines : Link → Members → ℕ → CommandKind → List Line
link_lines l m count kind =
    line 13 (not (room_fits l.room))
    ∷ line 17 (not (limit_fits l.limit))
    ∷ line 15 (not (in_range 0 l.id l.sequence))
    ∷ line 15 (bad_carried m count kind)
    ∷ []

-- ---- what is told, and the output afterwards

-- no reply, or the number of bytes of its packets, joined
pub data Replied : Type 0 where
  silent : Replied
  sent : ℕ → Replied

-- a refusal leaves the output as it was; a number goes alone
abbrev pub refusing : List ℕ → ℕ → WrittenOf (ℕ × List ℕ) Replied
refusing out n = written (refused (n, [])) out

-- the packets of a message, joined, from the first byte on, if the output holds all of them; nothing else changes
unfoldable pub joined_in : Sending → List ℕ → List ℕ → WrittenOf (ℕ × List ℕ) Replied
joined_in w m out =
    cond (ltb (length out) (length (joined_of w m))) (refusing out 14) (written (given (sent (length (joined_of w m)))) (sets out 0 (joined_of w m)))

-- 15 for a reply above the limit, 36, 14
unfoldable pub carried_of : Box → Link → ℕ → CommandKind → List ℕ → WrittenOf (ℕ × List ℕ) Replied
carried_of b l v kind out =
    cond (ltb l.limit (length (reply_by v kind b.members (body_of b kind)))) (refusing out 15)
    (faulted (first_fault (strings_of b kind)) out (joined_in (sending_of l) (reply_by v kind b.members (body_of b kind)) out))

-- the reply to a command: 13, 17, 15, and then those
unfoldable pub sent_of : Box → Link → ℕ → List ℕ → WrittenOf (ℕ × List ℕ) Replied
sent_of b l v out = table (link_lines l b.members (length b.transports) (kind_of_command v)) (refusing out) (carried_of b l v (kind_of_command v) out)

-- an envelope that is itself a response
abbrev pub is_response : Payload → Bool
is_response Payload.None = false
is_response (Payload.Response r) = true
is_response (Payload.Member field part) = false

-- the message's own refusal comes first of all; a response gets no reply, and nothing else is judged
abbrev pub replied_by : Box → Link → List ℕ → Told Envelope → WrittenOf (ℕ × List ℕ) Replied
replied_by b l out (refused n) = refusing out n
replied_by b l out (given e) = cond (is_response e.payload) (written (given silent) out) (sent_of b l (extended e.command) out)

unfoldable pub replied_of : Box → Link → List ℕ → List ℕ → WrittenOf (ℕ × List ℕ) Replied
replied_of b l message out = replied_by b l out (envelope_of message)
