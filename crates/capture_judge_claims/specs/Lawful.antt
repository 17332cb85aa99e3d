-- When captured packets are lawful: our writer would write them, for some transactions.
use Rattle.std.specs.Prelude.{ℕ, ◌≤◌, ◌≡◌, List, [], ◌∷◌, ◌++◌, Bool, true, false, not, ◌&&◌, ◌||◌, length}
use Rattle.wire.specs.Bytes.{AllBytes}
use Rattle.wire.specs.Those.{those}
use Rattle.wire.specs.Told.{Told, given, refused}
use Rattle.wire.specs.declared.stream.Stream.{Stream}
use Rattle.wire.specs.declared.stream.Stream.TheVariants.{Control, Ota, Alexa}
use Rattle.wire.specs.Stream.{stream_number}
use Rattle.ble_packet.specs.declared.reader.Packet.{Packet}
use Rattle.ble_packet.specs.declared.reader.Packet.TheVariants.{First, Next, Ack, Nack}
use Rattle.ble_packet.specs.Header.{is_of}
use Rattle.ble_packet.specs.Reader.{read_of}
use Rattle.capture_reader.specs.Capture.{Packets}
use Rattle.ble_sender.specs.declared.writer.Sending.{Sending}
use Rattle.ble_sender_claims.specs.Calls.{calls_of, SendableMessage}

-- ---- what our writer would write

-- a transaction: stream, id, first sequence and ACK wish, the payload, and the output that the writer's calls are lent
pub record Transaction : Type 0 where
  pub how : Sending
  pub payload : List ℕ
  pub out : List ℕ

-- one that our writer takes, at this room and limit, on this stream
pub record Writable (room limit : ℕ) (s : Stream) (t : Transaction) : Type 0 where
  pub takes : SendableMessage limit t.how t.payload t.out
  pub room-is : t.how.room ≡ room
  pub stream-is : t.how.stream ≡ stream_number s
  pub bytes : AllBytes t.payload

-- The ranges of docs/FORMATS.md, and nothing else: a transaction asks for no more.
abbrev pub WritableAll : Type 0
WritableAll =
    (room limit : ℕ) (s : Stream) (id sequence : ℕ) (ack : Bool) (payload out : List ℕ)
    → 20 ≤ room
    → room ≤ 512
    → 1 ≤ limit
    → limit ≤ 65535
    → id ≤ 15
    → sequence ≤ 15
    → length payload ≤ limit
    → AllBytes payload
    → room ≤ length out
    → Writable room limit s
    (record { how = record { room = room; stream = stream_number s; id = id; sequence = sequence; ack = ack }; payload = payload; out = out })

abbrev pub AllWritable : ℕ → ℕ → Stream → List Transaction → Type 0
AllWritable room limit s [] = Unit {0}
AllWritable room limit s (t ∷ ts) = Writable room limit s t × AllWritable room limit s ts

-- the packets of transactions one after another
abbrev pub packets_in : ℕ → List Transaction → List (List ℕ)
packets_in limit [] = []
packets_in limit (t ∷ ts) = calls_of limit t.how t.payload t.out ++ packets_in limit ts

-- ---- the packets of a stream

-- an ACK or NACK was read
abbrev pub acknowledges : Told Packet → Bool
acknowledges (refused n) = false
acknowledges (given (First head ack total start len)) = false
acknowledges (given (Next head ack last start len)) = false
acknowledges (given (Ack head)) = true
acknowledges (given (Nack head)) = true

abbrev pub is_ack : ℕ → List ℕ → Bool
is_ack limit p = acknowledges (read_of limit p)

-- a packet of the stream that is no ACK
abbrev pub carries : ℕ → Stream → List ℕ → Bool
carries limit s p = not (is_ack limit p) && is_of (stream_number s) p

-- every packet is an ACK, or of one of the three streams
abbrev pub known : ℕ → List ℕ → Bool
known limit p = is_ack limit p || (carries limit Control p || (carries limit Ota p || carries limit Alexa p))

abbrev pub AllKnown : ℕ → List (List ℕ) → Type 0
AllKnown limit [] = Unit {0}
AllKnown limit (p ∷ ps) = (known limit p ≡ true) × AllKnown limit ps

-- ---- lawful, or could be

-- for each stream there are transactions whose packets, one after another, are those of the stream in the capture
pub record LawfulPackets (room limit : ℕ) (ps : List (List ℕ)) : Type 0 where
  pub sent : Stream → List Transaction
  pub writable : (s : Stream) → AllWritable room limit s (sent s)
  pub packets-are : (s : Stream) → those (carries limit s) ps ≡ packets_in limit (sent s)
  pub all_known : AllKnown limit ps

-- there is a continuation that makes them lawful
pub record Viable (room limit : ℕ) (ps : List (List ℕ)) : Type 0 where
  pub more : List (List ℕ)
  pub more_bytes : Packets more
  pub lawful_then : LawfulPackets room limit (ps ++ more)
