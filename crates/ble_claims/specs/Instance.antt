-- P4 of docs/FORMATS.md as an instance of the claim that messages arrive, by computation.
use Rattle.std.specs.Prelude.{ℕ, zero, suc, ◌*◌, ◌≡◌, List, [], ◌∷◌, ◌++◌, true, length, get_or, drop, replicate}
use Rattle.std.proofs.Math.Option.{none, some}
use Rattle.wire.specs.Those.{those}
use Rattle.wire.specs.declared.stream.Stream.TheVariants.{Alexa}
use Rattle.ble_slot.specs.declared.Slot.{Slot}
use Rattle.ble_slot.specs.Slot.{idle, slot_count, lawful}
use Rattle.ble_sender.specs.declared.writer.Sending.{Sending}
use Rattle.ble_receiver.specs.Receiver.{PacketCall, call}
use Rattle.ble_sender_claims.specs.Calls.{calls_of, SendableMessage}
use Rattle.ble_claims.specs.Delivery.{row_after, replies_to, ours, has_slot, packets_in, shown, shown_to, all_answerable, Arrived, MessagesArrive}

-- small, so that the buffer is
abbrev pub limit : ℕ
limit = 40

-- room 20, stream 6, id 1, sequence 0, ACK wanted
abbrev pub how : Sending
how = record { room = 20; stream = 6; id = 1; sequence = 0; ack = true }

-- n numbers, from one on
abbrev pub from : ℕ → ℕ → List ℕ
from first zero = []
from first (suc n) = first ∷ from (suc first) n

-- 35 bytes
abbrev pub message : List ℕ
message = from 1 35

abbrev pub output : List ℕ
output = replicate 20 0

-- an OTA transaction is open, of which two bytes are held, and which wants an ACK
abbrev pub slots : List Slot
slots = replicate 4 idle ++ (record { opened = 1; id = 3; sequence = 15; wanted = 1; total = 6; held = 2 } ∷ replicate 7 idle)

abbrev pub buffer : List ℕ
buffer = replicate (slot_count * limit) 0

-- an answer buffer of eight bytes
abbrev pub eight : List ℕ
eight = replicate 8 0xEE

-- a transaction of the same stream and another id is begun, and one of the same id; a control message, whole
abbrev pub before : List PacketCall
before =
    call (0x62 ∷ 0x00 ∷ 0x00 ∷ 0x00 ∷ 0x03 ∷ 0x01 ∷ 0xAA ∷ []) 5 eight
    ∷ call (0x61 ∷ 0x50 ∷ 0x00 ∷ 0x00 ∷ 0x04 ∷ 0x01 ∷ 0xEE ∷ []) 5 eight
    ∷ call (0x01 ∷ 0x00 ∷ 0x00 ∷ 0x00 ∷ 0x02 ∷ 0x02 ∷ 0x08 ∷ 0x5E ∷ []) 6 eight
    ∷ []

-- P4's first packet
abbrev pub first : PacketCall
first = call (0x61 ∷ 0x00 ∷ 0x00 ∷ 0x00 ∷ 0x23 ∷ 0x0E ∷ from 1 14) 7 eight

-- the two after it, and among them packets of other streams and other ids, with answer sequences and buffers that are refused too
abbrev pub later : List PacketCall
later =
    -- the open OTA transaction goes on
    call (0x23 ∷ 0x04 ∷ 0x02 ∷ 0xAA ∷ 0xBB ∷ []) 0 eight
    -- an ACK, with an answer sequence above 15
    ∷ call (0x01 ∷ 0x0E ∷ 0x00 ∷ 0x02 ∷ 0x01 ∷ 0x00 ∷ []) 16 eight
    -- the transaction of another id goes on
    ∷ call (0x62 ∷ 0x14 ∷ 0x01 ∷ 0xBB ∷ []) 0 eight
    ∷ call (0x61 ∷ 0x14 ∷ 0x11 ∷ from 15 17) 8 eight
    -- two more of the stream begin, and for a third there is no slot
    ∷ call (0x63 ∷ 0x00 ∷ 0x00 ∷ 0x00 ∷ 0x02 ∷ 0x01 ∷ 0xCC ∷ []) 0 eight
    ∷ call (0x64 ∷ 0x00 ∷ 0x00 ∷ 0x00 ∷ 0x02 ∷ 0x01 ∷ 0xCC ∷ []) 0 eight
    ∷ call (0x65 ∷ 0x00 ∷ 0x00 ∷ 0x00 ∷ 0x02 ∷ 0x01 ∷ 0xCC ∷ []) 0 eight
    -- a packet without bytes
    ∷ call [] 0 eight
    -- an unknown stream
    ∷ call (0x51 ∷ 0x24 ∷ 0x01 ∷ 0xCC ∷ []) 0 eight
    -- an OTA packet that is refused
    ∷ call (0x23 ∷ 0x54 ∷ 0x01 ∷ 0xDD ∷ []) 0 eight
    ∷ call (0x61 ∷ 0x2A ∷ 0x04 ∷ from 32 4) 9 eight
    -- a NACK, without an answer buffer
    ∷ call (0x21 ∷ 0x0C ∷ 0x00 ∷ 0x02 ∷ 0x01 ∷ 0x03 ∷ []) 0 []
    ∷ []

-- the last packet again
abbrev pub after : List PacketCall
after = call (0x61 ∷ 0x2A ∷ 0x04 ∷ from 32 4) 9 eight ∷ []

-- All that the claim asks for is there, the message is given, at the third packet, with its ACK, at the index of the transaction that it
-- replaces, and the claim says so.
pub record ArrivalInstance : Type 0 where
  pub law : lawful limit slots ≡ true
  pub size : length buffer ≡ slot_count * limit
  pub takes : SendableMessage limit how message output
  pub begins : first.packet ≡ get_or (calls_of limit how message output) 0 []
  pub sent : packets_in (those (ours how) later) ≡ drop 1 (calls_of limit how message output)
  pub answerable : all_answerable (first ∷ those (ours how) later) ≡ true
  pub free : has_slot (row_after limit slots buffer before) how ≡ true
  pub arrived : shown_to limit how (replies_to limit slots buffer before (first ∷ later) after)
      ≡ shown (some 9) none eight
      ∷ shown (some 9) none eight
      ∷ shown (some 9) (some (record { stream = Alexa; id = 1; total = 35; ack = true; payload = message })) (0x61 ∷ 0x9E ∷ 0x00 ∷ 0x02 ∷ 0x01 ∷ 0x00 ∷ 0xEE ∷ 0xEE ∷ [])
      ∷ []
  pub claimed : MessagesArrive
      → Arrived how message first (those (ours how) later) (shown_to limit how (replies_to limit slots buffer before (first ∷ later) after))
