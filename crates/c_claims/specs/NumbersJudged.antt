-- The claim that a number above a byte is judged and not cut: where the library takes a byte, it is taken as 255, which is no stream, id or
-- sequence of a packet, and as the frame's first mark, F0, which is no sequence byte; a wish above 1 as no stream.
use Rattle.std.specs.Prelude.{ℕ, ◌≤◌, ◌≡◌, List}
use Rattle.ble_slot.specs.declared.Slot.{Slot}
use Rattle.c_classic.specs.Calls.{frame_write_of}
use Rattle.c_classic_parts.specs.Calls.{frame_begin_of}
use Rattle.c_sending.specs.Convert.{sending_of}
use Rattle.c_sending.specs.Calls.{ack_write_of}
use Rattle.c_receiving.specs.Calls.{receiver_accept_of}
use Rattle.c_reply.specs.Convert.{link_of}
use Rattle.c_outbox.specs.Calls.{outbox_append_of}

pub record NumbersJudged : Type 0 where
  pub frame-write : (limit sequence : ℕ) (payload out answer : List ℕ) → 256 ≤ sequence
      → frame_write_of limit sequence payload out answer ≡ frame_write_of limit 0xF0 payload out answer
  pub frame-begin : (limit sequence total : ℕ) (state : List ℕ) → 256 ≤ sequence
      → frame_begin_of limit sequence total state ≡ frame_begin_of limit 0xF0 total state
  -- what pito_packet_write is given
  pub packet-stream : (room stream id sequence ack : ℕ) → 256 ≤ stream → sending_of room stream id sequence ack ≡ sending_of room 255 id sequence ack
  pub packet-id : (room stream id sequence ack : ℕ) → 256 ≤ id → sending_of room stream id sequence ack ≡ sending_of room stream 255 sequence ack
  pub packet-sequence : (room stream id sequence ack : ℕ) → 256 ≤ sequence → sending_of room stream id sequence ack ≡ sending_of room stream id 255 ack
  pub packet-ack : (room stream id sequence ack : ℕ) → 2 ≤ ack → sending_of room stream id sequence ack ≡ sending_of room 255 id sequence 0
  pub ack-stream : (stream id sequence positive : ℕ) (out answer : List ℕ) → 256 ≤ stream
      → ack_write_of stream id sequence positive out answer ≡ ack_write_of 255 id sequence positive out answer
  pub ack-id : (stream id sequence positive : ℕ) (out answer : List ℕ) → 256 ≤ id
      → ack_write_of stream id sequence positive out answer ≡ ack_write_of stream 255 sequence positive out answer
  pub ack-sequence : (stream id sequence positive : ℕ) (out answer : List ℕ) → 256 ≤ sequence
      → ack_write_of stream id sequence positive out answer ≡ ack_write_of stream id 255 positive out answer
  pub ack-positive : (stream id sequence positive : ℕ) (out answer : List ℕ) → 2 ≤ positive
      → ack_write_of stream id sequence positive out answer ≡ ack_write_of 255 id sequence 0 out answer
  pub receiver-accept : (state : List ℕ) (slots : List Slot) (lent packet : List ℕ) (sequence : ℕ) (out answer : List ℕ) → 256 ≤ sequence
      → receiver_accept_of state slots lent packet sequence out answer ≡ receiver_accept_of state slots lent packet 255 out answer
  -- what pito_reply_write is given of its link
  pub reply-id : (room limit id sequence : ℕ) → 256 ≤ id → link_of room limit id sequence ≡ link_of room limit 255 sequence
  pub reply-sequence : (room limit id sequence : ℕ) → 256 ≤ sequence → link_of room limit id sequence ≡ link_of room limit id 255
  pub outbox-append : (buffer : List ℕ) (used stream : ℕ) (payload answer : List ℕ) → 256 ≤ stream
      → outbox_append_of buffer used stream payload answer ≡ outbox_append_of buffer used 255 payload answer
