-- Low Energy, writer to receiver: a message whose packets all come, in order, is given. A claim about whole lists of packets.
use Rattle.std.specs.Prelude.{ℕ, ◌*◌, ◌≤◌, ◌<◌, ◌≡◌, ◌⊎◌, List, [], ◌∷◌, ◌++◌, map, Bool, true, cond, ◌&&◌, ◌||◌, length, get_or, take, drop, leb, ltb}
use Rattle.std.proofs.Math.Option.{Option, none, some}
use Rattle.std.proofs.lemmas.List.Edits.{sets}
use Rattle.wire.specs.Those.{those}
use Rattle.wire.specs.Told.{Told, given, refused}
use Rattle.wire.specs.declared.stream.Stream.{Stream}
use Rattle.wire.specs.Stream.{stream_of}
use Rattle.ble_packet.specs.Header.{four_bits}
use Rattle.ble_packet.specs.Control.{ack_size, ack_bytes}
use Rattle.ble_slot.specs.declared.Slot.{Slot}
use Rattle.ble_slot.specs.declared.answer.Accepted.{Accepted}
use Rattle.ble_slot.specs.declared.answer.Accepted.TheVariants.{Taken, Finished, Acked, Nacked}
use Rattle.ble_slot.specs.Slot.{idle, is_open, is_idle, any_open, any_idle, slot_count, lane_of, lawful}
use Rattle.ble_receiver.specs.Buffer.{part_of}
use Rattle.ble_receiver.specs.Receiver.{is_for, PacketCall, accept_of}
use Rattle.ble_sender.specs.declared.writer.Sending.{Sending}
use Rattle.ble_sender_claims.specs.Calls.{calls_of, SendableMessage}

-- ---- a run of the receiver

-- a packet that was handed in with its answer sequence and answer buffer, what was told of it, and the lent buffer and the answer buffer
-- as that call returns
pub record PacketReply : Type 0 where
  pub call : PacketCall
  pub told : Told Accepted
  pub bytes : List ℕ
  pub out : List ℕ

-- each packet meets the slots and the buffer that the call before it left
unfoldable pub run_of : ℕ → List Slot → List ℕ → List PacketCall → List PacketReply
run_of limit slots bytes [] = []
run_of limit slots bytes (c ∷ cs) =
    record { call = c; told = (accept_of limit slots bytes c).told; bytes = (accept_of limit slots bytes c).bytes; out = (accept_of limit slots bytes c).out }
    ∷ run_of limit (accept_of limit slots bytes c).slots (accept_of limit slots bytes c).bytes cs

-- the row that a list of packets leaves
unfoldable pub row_after : ℕ → List Slot → List ℕ → List PacketCall → List Slot
row_after limit slots bytes [] = slots
row_after limit slots bytes (c ∷ cs) = row_after limit (accept_of limit slots bytes c).slots (accept_of limit slots bytes c).bytes cs

-- the replies to the packets `during`
abbrev pub replies_to : ℕ → List Slot → List ℕ → List PacketCall → List PacketCall → List PacketCall → List PacketReply
replies_to limit slots bytes before during after =
    take (length during) (drop (length before) (run_of limit slots bytes (before ++ during ++ after)))

-- ---- what is given

pub record Message : Type 0 where
  pub stream : Stream
  pub id : ℕ
  pub total : ℕ
  pub ack : Bool
  pub payload : List ℕ

-- a message is given when the answer is finished: what it tells, and the first bytes of its slot's part of the buffer
abbrev pub given_by : ℕ → Told Accepted → List ℕ → Option Message
given_by limit (given (Finished index stream id total ack replaced)) bytes =
    some (record { stream = stream; id = id; total = total; ack = ack; payload = take total (part_of limit index bytes) })
given_by limit (given (Taken index stream id replaced)) bytes = none
given_by limit (given (Acked head)) bytes = none
given_by limit (given (Nacked head)) bytes = none
given_by limit (refused n) bytes = none

-- the slot's index that is told of a piece, the last one too
abbrev pub index_in : Told Accepted → Option ℕ
index_in (given (Taken index stream id replaced)) = some index
index_in (given (Finished index stream id total ack replaced)) = some index
index_in (given (Acked head)) = none
index_in (given (Nacked head)) = none
index_in (refused n) = none

-- a packet of the message's stream and id; all others may come between
abbrev pub ours : Sending → PacketCall → Bool
ours w c = is_for w.stream w.id c.packet

-- a slot for the message's first packet: its id is open in its stream, or a slot of its stream is idle
abbrev pub has_slot : List Slot → Sending → Bool
has_slot slots w = any_open w.id (lane_of (stream_of w.stream) slots) || any_idle (lane_of (stream_of w.stream) slots)

-- the packets of calls
abbrev pub packets_in : List PacketCall → List (List ℕ)
packets_in cs = map (λ (c : PacketCall). c.packet) cs

-- what a call shows: the index of its slot, the message that it gives, if any, and its answer buffer afterwards
pub record CallShown : Type 0 where
  pub index : Option ℕ
  pub message : Option Message
  pub out : List ℕ

abbrev pub shown : Option ℕ → Option Message → List ℕ → CallShown
shown index message out = record { index = index; message = message; out = out }

-- what replies show, one each
abbrev pub shown_in : ℕ → List PacketReply → List CallShown
shown_in limit replies = map (λ (r : PacketReply). shown (index_in r.told) (given_by limit r.told r.bytes) r.out) replies

-- what the replies to the message's own packets show
abbrev pub shown_to : ℕ → Sending → List PacketReply → List CallShown
shown_to limit w replies = shown_in limit (those (λ (r : PacketReply). ours w r.call) replies)

-- ---- the claims

-- the message as it was handed to the writer
abbrev pub message_of : Sending → List ℕ → Message
message_of w m = record { stream = stream_of w.stream; id = w.id; total = length m; ack = w.ack; payload = m }

-- an answer sequence up to 15 and an answer buffer of six bytes or more: neither 15 nor 14
abbrev pub answerable : PacketCall → Bool
answerable c = ltb c.sequence four_bits && leb ack_size (length c.out)

abbrev pub all_answerable : List PacketCall → Bool
all_answerable [] = true
all_answerable (c ∷ cs) = answerable c && all_answerable cs

-- The ranges of docs/FORMATS.md, and nothing else: no premise of the claims asks for more of a call.
abbrev pub AnswerableAll : Type 0
AnswerableAll = (c : PacketCall) → c.sequence ≤ 15 → 6 ≤ length c.out → answerable c ≡ true

-- the answer buffer of the last call: it begins with the ACK exactly if the writer wished for one
abbrev pub last_out : Sending → PacketCall → List ℕ
last_out w c = cond w.ack (sets c.out 0 (ack_bytes w.stream w.id c.sequence true)) c.out

-- each call takes a piece at one index of the row; each but the last gives nothing and leaves its answer buffer, and the last gives the message
abbrev pub at_last : ℕ → Sending → List ℕ → PacketCall → List PacketCall → List CallShown
at_last index w m c [] = shown (some index) (some (message_of w m)) (last_out w c) ∷ []
at_last index w m c (d ∷ later) = shown (some index) none c.out ∷ at_last index w m d later

-- so it is, at some index of the row
pub record Arrived (w : Sending) (m : List ℕ) (first : PacketCall) (later : List PacketCall) (shows : List CallShown) : Type 0 where
  pub index : ℕ
  pub as_said : shows ≡ at_last index w m first later

-- From every lawful row and buffer of the right size, whatever packets come before and after: where a packet is the first of those
-- that the writer's calls give for a message, a slot is there for it, and those of its stream and id among the packets after it are
-- exactly the others, in order, with any packets of other streams and other ids between, and none of the message's own gets 15 or 14,
-- each of them takes a piece, all at one index, the last of them gives the message, and its answer buffer begins with the ACK exactly
-- if one was wished for; no other of them gives any or touches its answer buffer.
abbrev pub MessagesArrive : Type 0
MessagesArrive =
    (limit : ℕ) (slots : List Slot) (bytes : List ℕ) (before : List PacketCall) (first : PacketCall) (later after : List PacketCall) (w : Sending) (m out : List ℕ)
    → lawful limit slots ≡ true
    → length bytes ≡ slot_count * limit
    → SendableMessage limit w m out
    → first.packet ≡ get_or (calls_of limit w m out) 0 []
    → packets_in (those (ours w) later) ≡ drop 1 (calls_of limit w m out)
    → all_answerable (first ∷ those (ours w) later) ≡ true
    → has_slot (row_after limit slots bytes before) w ≡ true
    → Arrived w m first (those (ours w) later) (shown_to limit w (replies_to limit slots bytes before (first ∷ later) after))

-- With nothing before or between: the writer's packets alone give the message, at the last of them.
abbrev pub RoundTrip : Type 0
RoundTrip =
    (limit : ℕ) (slots : List Slot) (bytes : List ℕ) (first : PacketCall) (later : List PacketCall) (w : Sending) (m out : List ℕ)
    → lawful limit slots ≡ true
    → length bytes ≡ slot_count * limit
    → SendableMessage limit w m out
    → first.packet ≡ get_or (calls_of limit w m out) 0 []
    → packets_in later ≡ drop 1 (calls_of limit w m out)
    → all_answerable (first ∷ later) ≡ true
    → has_slot slots w ≡ true
    → Arrived w m first later (shown_in limit (run_of limit slots bytes (first ∷ later)))

-- The premise on the slots asks for no more than one slot of the stream that is idle or open with the id.
abbrev pub SlotEnough : Type 0
SlotEnough =
    (slots : List Slot) (w : Sending) (i : ℕ)
    → i < length (lane_of (stream_of w.stream) slots)
    → (is_open w.id (get_or (lane_of (stream_of w.stream) slots) i idle) ≡ true) ⊎ (is_idle (get_or (lane_of (stream_of w.stream) slots) i idle) ≡ true)
    → has_slot slots w ≡ true

-- the messages that are given
abbrev pub given_with : Option Message → List Message → List Message
given_with none messages = messages
given_with (some message) messages = message ∷ messages

abbrev pub given_only : List CallShown → List Message
given_only [] = []
given_only (s ∷ ss) = given_with s.message (given_only ss)

-- Whatever packets a writer's calls give, even none, both claims ask for the message, and once: no writer that refuses meets them.
abbrev pub MessageAsked : Type 0
MessageAsked =
    (index : ℕ) (w : Sending) (m : List ℕ) (first : PacketCall) (later : List PacketCall) → given_only (at_last index w m first later) ≡ message_of w m ∷ []
