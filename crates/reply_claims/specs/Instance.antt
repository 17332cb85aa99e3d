-- Replies worked by hand (docs/FORMATS.md), by computation: calls with the whole output afterwards, and one that arrives.
use Rattle.std.specs.Prelude.{ℕ, ◌*◌, ◌≡◌, true, false, List, [], ◌∷◌, ◌++◌, ℤ, pos, length, get_or, drop, replicate}
use Rattle.std.proofs.Math.Option.{none, some}
use Rattle.wire.specs.declared.stream.Stream.TheVariants.{Control}
use Rattle.wire.specs.Those.{those}
use Rattle.wire.specs.Told.{given, refused, WrittenOf, written}
use Rattle.ble_slot.specs.declared.Slot.{Slot}
use Rattle.ble_slot.specs.Slot.{idle, slot_count, lawful}
use Rattle.ble_receiver.specs.Receiver.{PacketCall, call}
use Rattle.ble_claims.specs.Delivery.{row_after, ours, has_slot, packets_in, shown, shown_to, replies_to, all_answerable, Arrived}
use Rattle.reply.specs.declared.Link.{Link}
use Rattle.reply.specs.Reply.{Box, sending_of, reply_of, Replied, silent, sent, replied_of}
use Rattle.reply_claims.specs.Answers.{Answers, packets_cut, ReplyArrives}

-- ---- the calls

-- a device's name, transports and attributes; features 13 hex
abbrev pub membered : ℕ → ℕ → List ℕ → List ℤ → ℕ → Box
membered information features name transports attributes =
    record {
      serial_number = 0x53 ∷ [];
      name = name;
      transports = transports;
      device_type = 0x54 ∷ [];
      features = record { features = 0x13; device_attributes = attributes };
      members = record { information = information; features = features };
    }

abbrev pub device : List ℕ → List ℤ → ℕ → Box
device name transports attributes = membered 3 28 name transports attributes

abbrev pub box : Box
box = device (0x4E ∷ []) (pos 0 ∷ []) 0

-- two transports, and attributes
abbrev full : Box
full = device (0x4E ∷ []) (pos 0 ∷ pos 4 ∷ []) 300

-- a name that is cut in the middle of a letter
abbrev cut_name : Box
cut_name = device (0x4E ∷ 0xC3 ∷ []) (pos 0 ∷ []) 0

-- nine transports, and members that are out of range
abbrev unfit : Box
unfit =
    record {
      serial_number = 0xFF ∷ [];
      name = [];
      transports = replicate 9 (pos 0);
      device_type = [];
      features = record { features = 0; device_attributes = 0 };
      members = record { information = 0; features = 536870912 };
    }

abbrev pub link : ℕ → ℕ → Link
link room limit = record { room = room; limit = limit; id = 1; sequence = 2 }

abbrev numbered : ℕ → ℕ → Link
numbered id sequence = record { room = 64; limit = 4096; id = id; sequence = sequence }

-- a call over an output that held something
abbrev ask : Box → Link → List ℕ → ℕ → WrittenOf (ℕ × List ℕ) Replied
ask b l message space = replied_of b l message (replicate space 0xEE)

-- the bytes, and what is left of the output
abbrev wrote : List ℕ → ℕ → WrittenOf (ℕ × List ℕ) Replied
wrote s more = written (given (sent (length s))) (s ++ replicate more 0xEE)

abbrev leaves : ℕ → ℕ → WrittenOf (ℕ × List ℕ) Replied
leaves n space = written (refused (n, [])) (replicate space 0xEE)

-- the two questions of the handshake
abbrev pub information : List ℕ
information = 0x08 ∷ 0x14 ∷ []

abbrev features : List ℕ
features = 0x08 ∷ 0x1C ∷ []

-- the varint of -1
abbrev minus_one : List ℕ
minus_one = replicate 9 0xFF ++ (0x01 ∷ [])

-- the one packet of a short reply
abbrev told : List ℕ → List ℕ
told reply = 0x01 ∷ 0x20 ∷ 0x00 ∷ 0x00 ∷ length reply ∷ length reply ∷ reply

-- the two packets of device information at a room of 20
abbrev pub first : List ℕ
first =
    0x01 ∷ 0x20 ∷ 0x00 ∷ 0x00 ∷ 0x12 ∷ 0x0E
    ∷ 0x08 ∷ 0x14 ∷ 0x4A ∷ 0x0E ∷ 0x1A ∷ 0x0C ∷ 0x0A ∷ 0x01 ∷ 0x53 ∷ 0x12 ∷ 0x01 ∷ 0x4E ∷ 0x1A ∷ 0x01 ∷ []

abbrev pub second : List ℕ
second = 0x01 ∷ 0x38 ∷ 0x04 ∷ 0x00 ∷ 0x22 ∷ 0x01 ∷ 0x54 ∷ []

abbrev pub reply : List ℕ
reply =
    0x08 ∷ 0x14 ∷ 0x4A ∷ 0x0E ∷ 0x1A ∷ 0x0C ∷ 0x0A ∷ 0x01 ∷ 0x53 ∷ 0x12 ∷ 0x01 ∷ 0x4E ∷ 0x1A ∷ 0x01 ∷ 0x00 ∷ 0x22 ∷ 0x01 ∷ 0x54 ∷ []

unfoldable pub asked : List (WrittenOf (ℕ × List ℕ) Replied)
asked =
    ask box (link 64 4096) information 26
    ∷ ask box (link 64 4096) features 17
    ∷ ask box (link 64 4096) (0x08 ∷ 0x5E ∷ []) 10
    ∷ ask unfit (link 64 4096) (0x08 ∷ 0x5F ∷ []) 10
    ∷ ask unfit (link 64 4096) [] 10
    -- any other command: 21, and -1
    ∷ ask unfit (link 64 4096) (0x08 ∷ 0x15 ∷ []) 12
    ∷ ask unfit (link 64 4096) (0x08 ∷ minus_one) 21
    -- another member behind the command, and before it, whatever it holds
    ∷ ask unfit (link 64 4096) (0x08 ∷ 0x5E ∷ 0x12 ∷ 0x00 ∷ []) 10
    ∷ ask unfit (link 64 4096) (0x12 ∷ 0x01 ∷ 0xFF ∷ 0x08 ∷ 0x5E ∷ []) 10
    -- all that device information and features have
    ∷ ask full (link 64 4096) information 25
    ∷ ask full (link 64 4096) features 18
    -- the last id and sequence; one above
    ∷ ask box (numbered 15 15) (0x08 ∷ 0x5E ∷ []) 10
    ∷ ask box (numbered 16 15) (0x08 ∷ 0x5E ∷ []) 10
    ∷ ask box (numbered 15 16) (0x08 ∷ 0x5E ∷ []) 10
    -- a response, whatever room there is; one with a code and a payload; a broken one
    ∷ ask box (link 0 0) (0x08 ∷ 0x14 ∷ 0x4A ∷ 0x00 ∷ []) 3
    ∷ ask box (link 64 4096) (0x08 ∷ 0x14 ∷ 0x4A ∷ 0x05 ∷ 0x08 ∷ 0x03 ∷ 0x12 ∷ 0x01 ∷ 0xFF ∷ []) 64
    ∷ ask box (link 0 0) (0x08 ∷ 0x14 ∷ 0x4A ∷ 0x01 ∷ 0xFF ∷ []) 3
    -- 13, 17, 15, 36, 14 in their order
    ∷ ask unfit (link 19 0) information 9
    ∷ ask unfit (link 64 0) information 9
    ∷ ask unfit (link 64 65535) information 9
    ∷ ask cut_name (link 64 18) information 9
    ∷ ask cut_name (link 64 19) information 9
    -- each by itself: room, limit, transports, and the members' numbers
    ∷ ask box (link 513 4096) information 64
    ∷ ask box (link 64 65536) information 64
    ∷ ask (device (0x4E ∷ []) (replicate 9 (pos 0)) 0) (link 64 4096) information 64
    ∷ ask (membered 1 28 (0x4E ∷ []) [] 0) (link 64 4096) information 64
    ∷ ask (membered 536870912 28 (0x4E ∷ []) [] 0) (link 64 4096) information 64
    ∷ ask (membered 3 1 (0x4E ∷ []) [] 0) (link 64 4096) features 64
    ∷ ask (membered 3 536870912 (0x4E ∷ []) [] 0) (link 64 4096) features 64
    ∷ ask box (link 64 17) information 24
    ∷ ask box (link 64 18) information 23
    -- two packets, in an output for exactly them
    ∷ ask box (link 20 18) information 27
    ∷ []

unfoldable pub answered : List (WrittenOf (ℕ × List ℕ) Replied)
answered =
    wrote (told reply) 2
    ∷ wrote (told (0x08 ∷ 0x1C ∷ 0x4A ∷ 0x05 ∷ 0xE2 ∷ 0x01 ∷ 0x02 ∷ 0x08 ∷ 0x13 ∷ [])) 2
    ∷ wrote (told (0x08 ∷ 0x5E ∷ 0x4A ∷ 0x00 ∷ [])) 0
    ∷ wrote (told (0x08 ∷ 0x5F ∷ 0x4A ∷ 0x00 ∷ [])) 0
    ∷ wrote (told (0x4A ∷ 0x02 ∷ 0x08 ∷ 0x03 ∷ [])) 0
    ∷ wrote (told (0x08 ∷ 0x15 ∷ 0x4A ∷ 0x02 ∷ 0x08 ∷ 0x03 ∷ [])) 0
    ∷ wrote (told (0x08 ∷ (minus_one ++ (0x4A ∷ 0x02 ∷ 0x08 ∷ 0x03 ∷ [])))) 0
    ∷ wrote (told (0x08 ∷ 0x5E ∷ 0x4A ∷ 0x00 ∷ [])) 0
    ∷ wrote (told (0x08 ∷ 0x5E ∷ 0x4A ∷ 0x00 ∷ [])) 0
    ∷ wrote
    (told
    (0x08 ∷ 0x14 ∷ 0x4A ∷ 0x0F ∷ 0x1A ∷ 0x0D ∷ 0x0A ∷ 0x01 ∷ 0x53 ∷ 0x12 ∷ 0x01 ∷ 0x4E ∷ 0x1A ∷ 0x02 ∷ 0x00 ∷ 0x04 ∷ 0x22 ∷ 0x01 ∷ 0x54 ∷ [])) 0
    ∷ wrote (told (0x08 ∷ 0x1C ∷ 0x4A ∷ 0x08 ∷ 0xE2 ∷ 0x01 ∷ 0x05 ∷ 0x08 ∷ 0x13 ∷ 0x10 ∷ 0xAC ∷ 0x02 ∷ [])) 0
    ∷ wrote (0x0F ∷ 0xF0 ∷ 0x00 ∷ 0x00 ∷ 0x04 ∷ 0x04 ∷ 0x08 ∷ 0x5E ∷ 0x4A ∷ 0x00 ∷ []) 0
    ∷ leaves 15 10
    ∷ leaves 15 10
    ∷ written (given silent) (replicate 3 0xEE)
    ∷ written (given silent) (replicate 64 0xEE)
    ∷ leaves 30 3
    ∷ leaves 13 9
    ∷ leaves 17 9
    ∷ leaves 15 9
    ∷ leaves 15 9
    ∷ written (refused (36, 2 ∷ 1 ∷ [])) (replicate 9 0xEE)
    ∷ leaves 13 64
    ∷ leaves 17 64
    ∷ leaves 15 64
    ∷ leaves 15 64
    ∷ leaves 15 64
    ∷ leaves 15 64
    ∷ leaves 15 64
    ∷ leaves 15 24
    ∷ leaves 14 23
    ∷ wrote (first ++ second) 0
    ∷ []

abbrev pub ByHand : Type 0
ByHand = asked ≡ answered

-- ---- one that arrives

-- of a limit of 40, so that the buffer is small; an OTA transaction is open, of which two bytes are held
abbrev pub slots : List Slot
slots = replicate 4 idle ++ (record { opened = 1; id = 3; sequence = 15; wanted = 1; total = 6; held = 2 } ∷ replicate 7 idle)

abbrev pub buffer : List ℕ
buffer = replicate (slot_count * 40) 0

abbrev pub output : List ℕ
output = replicate 30 0xEE

-- the answer buffers of the reply's own packets
abbrev pub six : List ℕ
six = replicate 6 0xEE

-- a transaction of the same stream and another id is begun, and one of the same id
abbrev pub before : List PacketCall
before =
    call (0x02 ∷ 0x00 ∷ 0x00 ∷ 0x00 ∷ 0x03 ∷ 0x01 ∷ 0xAA ∷ []) 0 six
    ∷ call (0x01 ∷ 0x50 ∷ 0x00 ∷ 0x00 ∷ 0x04 ∷ 0x01 ∷ 0xEE ∷ []) 0 six
    ∷ []

abbrev pub begun : PacketCall
begun = call first 15 six

-- the reply's last packet, and among others: the OTA transaction goes on, the one of another id too, an Alexa message, a packet without
-- bytes, an unknown stream
abbrev pub later : List PacketCall
later =
    call (0x23 ∷ 0x04 ∷ 0x02 ∷ 0xAA ∷ 0xBB ∷ []) 16 six
    ∷ call (0x02 ∷ 0x14 ∷ 0x01 ∷ 0xBB ∷ []) 0 six
    ∷ call (0x61 ∷ 0x00 ∷ 0x00 ∷ 0x00 ∷ 0x02 ∷ 0x02 ∷ 0x08 ∷ 0x5E ∷ []) 0 six
    ∷ call [] 0 six
    ∷ call (0x51 ∷ 0x24 ∷ 0x01 ∷ 0xCC ∷ []) 0 []
    ∷ call second 0 six
    ∷ []

-- the last packet again
abbrev pub after : List PacketCall
after = call second 0 six ∷ []

-- All that the claim asks for is there, the reply is given, at its second packet, at the index of the transaction that it replaces, and the
-- claim says so.
pub record OneReplyArrives : Type 0 where
  pub law : lawful 40 slots ≡ true
  pub size : length buffer ≡ slot_count * 40
  pub answers : Answers box (link 20 40) information (pos 20) output
  pub begins : begun.packet ≡ get_or (packets_cut (replied_of box (link 20 40) information output)) 0 []
  pub sent : packets_in (those (ours (sending_of (link 20 40))) later) ≡ drop 1 (packets_cut (replied_of box (link 20 40) information output))
  pub answerable : all_answerable (begun ∷ those (ours (sending_of (link 20 40))) later) ≡ true
  pub free : has_slot (row_after 40 slots buffer before) (sending_of (link 20 40)) ≡ true
  pub arrived : shown_to 40 (sending_of (link 20 40)) (replies_to 40 slots buffer before (begun ∷ later) after)
      ≡ shown (some 1) none six ∷ shown (some 1) (some (record { stream = Control; id = 1; total = 18; ack = false; payload = reply })) six ∷ []
  pub claimed : ReplyArrives
      → Arrived (sending_of (link 20 40)) (reply_of box 20) begun (those (ours (sending_of (link 20 40))) later)
      (shown_to 40 (sending_of (link 20 40)) (replies_to 40 slots buffer before (begun ∷ later) after))
