-- The reply is written, and arrives: a receiver of the link's limit gives exactly it.
use Rattle.std.specs.Prelude.{ℕ, ◌*◌, ◌≤◌, ◌≡◌, true, false, List, [], ◌∷◌, ℤ, pos, length, get_or, take, drop}
use Rattle.std.proofs.lemmas.List.Edits.{sets}
use Rattle.wire.specs.Limit.{limit_fits}
use Rattle.wire.specs.Those.{those}
use Rattle.wire.specs.Told.{ToldMore, given, refused, WrittenOf, written}
use Rattle.utf8.specs.WellFormed.{WellFormed}
use Rattle.proto_strings.specs.Texts.{AllWellFormed}
use Rattle.proto_field.specs.Signed.{extended}
use Rattle.ble_packet.specs.Header.{in_range}
use Rattle.ble_sender.specs.Writer.{room_fits}
use Rattle.ble_slot.specs.declared.Slot.{Slot}
use Rattle.ble_slot.specs.Slot.{slot_count, lawful}
use Rattle.ble_receiver.specs.Receiver.{PacketCall}
use Rattle.ble_claims.specs.Delivery.{row_after, ours, has_slot, packets_in, shown_to, replies_to, all_answerable, Arrived}
use Rattle.msg_control.specs.declared.response.Response.{Response}
use Rattle.msg_control.specs.declared.envelope.Payload.{Payload}
use Rattle.msg_control.specs.declared.envelope.Payload.TheVariants as Payload
use Rattle.msg_control.specs.Envelope.{envelope_of}
use Rattle.ble_joined.specs.Joined.{joined_of}
use Rattle.reply.specs.declared.Link.{Link}
use Rattle.reply_parts.specs.Body.{kind_of_command}
use Rattle.reply.specs.Reply.{Box, sending_of, reply_of, bad_carried, strings_of, is_response, Replied, silent, sent, replied_of}
use Rattle.reply_claims.specs.Cut.{cut_apart}

-- ---- what is answered

pub record Answers (b : Box) (l : Link) (message : List ℕ) (c : ℤ) (out : List ℕ) : Type 0 where
  -- the message is an envelope of this command, and no response
  pub payload : Payload
  pub reads : envelope_of message ≡ given (record { command = c; payload = payload })
  pub question : is_response payload ≡ false
  -- room, limit, id and sequence in their ranges
  pub room : room_fits l.room ≡ true
  pub limit : limit_fits l.limit ≡ true
  pub range : in_range 0 l.id l.sequence ≡ true
  -- what the reply carries is in its ranges, and its strings are well formed
  pub carried : bad_carried b.members (length b.transports) (kind_of_command (extended c)) ≡ false
  pub strings : AllWellFormed (strings_of b (kind_of_command (extended c)))
  -- the reply is within the limit, and the output holds all its packets
  pub within : length (reply_of b (extended c)) ≤ l.limit
  pub space : length (joined_of (sending_of l) (reply_of b (extended c))) ≤ length out

-- the facts of docs/FORMATS.md that hold for each command
pub record AskedInRange (b : Box) (l : Link) (message : List ℕ) (c : ℤ) (out : List ℕ) : Type 0 where
  pub payload : Payload
  pub reads : envelope_of message ≡ given (record { command = c; payload = payload })
  pub question : (r : Response) → payload ≡ Payload.Response r → ⊥
  pub room-low : 20 ≤ l.room
  pub room-high : l.room ≤ 512
  pub limit-low : 1 ≤ l.limit
  pub limit-high : l.limit ≤ 65535
  pub id : l.id ≤ 15
  pub sequence : l.sequence ≤ 15
  pub reply-within : length (reply_of b (extended c)) ≤ l.limit
  pub space : length (joined_of (sending_of l) (reply_of b (extended c))) ≤ length out

-- Those, and of what the reply carries its own ranges, and nothing else: no premise asks for more.
pub record AnswersAll : Type 0 where
  pub information : (b : Box) (l : Link) (message out : List ℕ) → AskedInRange b l message (pos 20) out
      → 2 ≤ b.members.information → b.members.information ≤ 536870911 → length b.transports ≤ 8
      → WellFormed b.serial_number → WellFormed b.name → WellFormed b.device_type
      → Answers b l message (pos 20) out
  pub features : (b : Box) (l : Link) (message out : List ℕ) → AskedInRange b l message (pos 28) out
      → 2 ≤ b.members.features → b.members.features ≤ 536870911
      → Answers b l message (pos 28) out
  pub segment : (b : Box) (l : Link) (message out : List ℕ) → AskedInRange b l message (pos 94) out → Answers b l message (pos 94) out
  pub apply : (b : Box) (l : Link) (message out : List ℕ) → AskedInRange b l message (pos 95) out → Answers b l message (pos 95) out
  pub other : (b : Box) (l : Link) (message : List ℕ) (c : ℤ) (out : List ℕ) → AskedInRange b l message c out
      → (extended c ≡ 20 → ⊥) → (extended c ≡ 28 → ⊥) → (extended c ≡ 94 → ⊥) → (extended c ≡ 95 → ⊥)
      → Answers b l message c out

-- ---- the claims

-- The reply is written: the number of its bytes is told, they stand first in the output, and nothing else changes.
abbrev pub ReplyWritten : Type 0
ReplyWritten =
    (b : Box) (l : Link) (message : List ℕ) (c : ℤ) (out : List ℕ) → Answers b l message c out
    → replied_of b l message out
    ≡ written (given (sent (length (joined_of (sending_of l) (reply_of b (extended c)))))) (sets out 0 (joined_of (sending_of l) (reply_of b (extended c))))

-- the packets that a call wrote: the bytes that it told, cut apart
abbrev pub cut_told : ToldMore Replied → List ℕ → List (List ℕ)
cut_told (given (sent n)) out = cut_apart (take n out)
cut_told (given silent) out = []
cut_told (refused why) out = []

abbrev pub packets_cut : WrittenOf (ℕ × List ℕ) Replied → List (List ℕ)
packets_cut w = cut_told w.told w.out

-- From every lawful row and buffer of the link's limit, whatever packets come before and after: where a packet is the first of those
-- that the call's bytes are cut into, a slot is there for it, and those of the control stream and the link's id among the packets after
-- it are exactly the others, in order, with any packets of other streams and other ids between, and none of the reply's own gets 15 or
-- 14, each of them takes a piece, all at one index, the last of them gives exactly the reply, and no other of them gives any; none
-- touches its answer buffer, since no ACK is wanted. A call that writes nothing has no packets, and does not meet it.
abbrev pub ReplyArrives : Type 0
ReplyArrives =
    (b : Box) (l : Link) (message : List ℕ) (c : ℤ) (out : List ℕ) (slots : List Slot) (bytes : List ℕ) (before : List PacketCall)
    (first : PacketCall) (later after : List PacketCall)
    → Answers b l message c out
    → lawful l.limit slots ≡ true
    → length bytes ≡ slot_count * l.limit
    → first.packet ≡ get_or (packets_cut (replied_of b l message out)) 0 []
    → packets_in (those (ours (sending_of l)) later) ≡ drop 1 (packets_cut (replied_of b l message out))
    → all_answerable (first ∷ those (ours (sending_of l)) later) ≡ true
    → has_slot (row_after l.limit slots bytes before) (sending_of l) ≡ true
    → Arrived (sending_of l) (reply_of b (extended c)) first (those (ours (sending_of l)) later)
    (shown_to l.limit (sending_of l) (replies_to l.limit slots bytes before (first ∷ later) after))
