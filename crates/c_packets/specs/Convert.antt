-- One packet: what the calls answer as rows.
use Rattle.std.specs.Prelude.{ℕ, cond, List, [], ◌∷◌, replicate}
use Rattle.wire.specs.Bytes.{bit}
use Rattle.wire.specs.Stream.{stream_number}
use Rattle.wire.specs.Told.{Told, given, refused}
use Rattle.ble_packet.specs.declared.reader.Head.{Head}
use Rattle.ble_packet.specs.declared.reader.Packet.{Packet}
use Rattle.ble_packet.specs.declared.reader.Packet.TheVariants.{First, Next, Ack, Nack}
use Rattle.ble_packet.specs.Header.{type_first, type_continuation, type_last, type_control}
use Rattle.capture_reader.specs.Capture.{ToldAt}
use Rattle.capture_packet.specs.Place as place
use Rattle.capture_packet.specs.Place.{PacketItem}

-- where the packet ends, stream, id, sequence, type, ACK flag, extender, total, where its payload starts and how long it is
abbrev pub head_row : ℕ → Head → ℕ → ℕ → ℕ → ℕ → ℕ → ℕ → List ℕ
head_row end h kind ack extended total start length =
    end ∷ stream_number h.stream ∷ h.id ∷ h.sequence ∷ kind ∷ ack ∷ extended ∷ total ∷ start ∷ length ∷ []

-- 0 where a packet has no such number; an ACK and a NACK have no extender, and the flag 1 and 0
abbrev pub packet_row : ℕ → ℕ → Packet → List ℕ
packet_row end extended (First h ack total start len) = head_row end h type_first (bit ack) extended total start len
packet_row end extended (Next h ack last start len) = head_row end h (cond last type_last type_continuation) (bit ack) extended 0 start len
packet_row end extended (Ack h) = head_row end h type_control 1 0 0 0 0
packet_row end extended (Nack h) = head_row end h type_control 0 0 0 0 0

abbrev pub front_row : ℕ → ℕ → Told Packet → List ℕ
front_row end extended (given packet) = packet_row end extended packet
front_row end extended (refused n) = replicate 10 0

-- outcome (0 the end, 1 a packet), start, length, next, and the place that goes with a refusal
abbrev pub captured_row : ToldAt PacketItem → List ℕ
captured_row (given (place.found f)) = 1 ∷ f.start ∷ f.size ∷ f.next ∷ 0 ∷ []
captured_row (given place.end) = replicate 5 0
captured_row (refused why) = 0 ∷ 0 ∷ 0 ∷ 0 ∷ why.1 ∷ []
