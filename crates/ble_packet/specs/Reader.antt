-- One packet read: its fields, the table of refusals, and what is told of it.
use Rattle.std.specs.Prelude.{ℕ, ◌+◌, List, [], ◌∷◌, Bool, true, false, not, cond, ◌&&◌, ◌||◌, length, get_or, drop, ltb, eqb, Result}
use Rattle.wire.specs.Told.{Told, told_by, given, refused, Line, line, table}
use Rattle.wire.specs.Bytes.{pair_of}
use Rattle.wire.specs.declared.stream.Stream.{Stream}
use Rattle.wire.specs.Stream.{is_stream, stream_of, stream_number}
use Rattle.ble_packet.specs.declared.reader.Head.{Head}
use Rattle.ble_packet.specs.declared.reader.StartBits.{StartBits}
use Rattle.ble_packet.specs.declared.reader.Packet.{Packet}
use Rattle.ble_packet.specs.declared.reader.Packet.TheVariants.{First, Next, Ack, Nack}
use Rattle.ble_packet.specs.declared.reader.Refusal.{Refusal}
use Rattle.ble_packet.specs.declared.reader.Refusal.TheVariants.{Short, UnknownStream, BadControl, Reserved, Length, TotalOver, Empty, AboveTotal}
use Rattle.ble_packet.specs.Header.{start_size, reserved_byte, type_first, type_last, type_control, header_size, length_place, stream_bits, id_bits, sequence_bits, type_bits, ack_bit, extender_bit}
use Rattle.ble_packet.specs.Control.{ack_tail}

-- two lists of bytes are the same
abbrev pub same_bytes : List ℕ → List ℕ → Bool
same_bytes [] [] = true
same_bytes [] (y ∷ ys) = false
same_bytes (x ∷ xs) [] = false
same_bytes (x ∷ xs) (y ∷ ys) = eqb x y && same_bytes xs ys

-- the payload length at a place: one byte, or two with the extender
abbrev pub length_at : List ℕ → ℕ → Bool → ℕ
length_at p at extended = cond extended (pair_of (get_or p at 0) (get_or p (at + 1) 0)) (get_or p at 0)

-- extender 0, then exactly what follows in an ACK or NACK
abbrev pub is_acknowledgement : List ℕ → Bool → Bool → Bool
is_acknowledgement p ack extended = not extended && same_bytes (drop start_size p) (ack_tail ack)

-- the fields of a packet; exact: an ACK or NACK, if it is of type 3
pub record PacketFields : Type 0 where
  pub size : ℕ
  pub stream : ℕ
  pub head : Head
  pub kind : ℕ
  pub ack : Bool
  pub header : ℕ
  pub reserved : ℕ
  pub total : ℕ
  pub len : ℕ
  pub exact : Bool

-- the fields of a packet, by what its bytes 0 and 1 say
abbrev pub fields_by : List ℕ → ℕ → ℕ → ℕ → ℕ → Bool → Bool → PacketFields
fields_by p stream id sequence kind ack extended =
    record {
      size = length p;
      stream = stream;
      head = record { stream = stream_of stream; id = id; sequence = sequence };
      kind = kind;
      ack = ack;
      header = header_size (eqb kind type_first) extended;
      reserved = get_or p 2 0;
      total = pair_of (get_or p 3 0) (get_or p 4 0);
      len = length_at p (length_place (eqb kind type_first)) extended;
      exact = is_acknowledgement p ack extended;
    }

-- the fields of a packet; a byte that it does not have counts as 0
unfoldable pub fields_of : List ℕ → PacketFields
fields_of p =
    fields_by p (stream_bits (get_or p 0 0)) (id_bits (get_or p 0 0)) (sequence_bits (get_or p 1 0)) (type_bits (get_or p 1 0)) (ack_bit (get_or p 1 0)) (extender_bit (get_or p 1 0))

abbrev pub is_first : PacketFields → Bool
is_first f = eqb f.kind type_first

abbrev pub is_control : PacketFields → Bool
is_control f = eqb f.kind type_control

-- what a packet says that passes the table
unfoldable pub content_of : PacketFields → Packet
content_of f =
    cond (is_control f) (cond f.ack (Ack f.head) (Nack f.head))
    (cond (is_first f) (First f.head f.ack f.total f.header f.len)
    (Next f.head f.ack (eqb f.kind type_last) f.header f.len))

-- stream, id and sequence of a packet
abbrev pub head_in : Packet → Head
head_in (First head ack total start len) = head
head_in (Next head ack last start len) = head
head_in (Ack head) = head
head_in (Nack head) = head

-- how long its payload is
abbrev pub len_in : Packet → ℕ
len_in (First head ack total start len) = len
len_in (Next head ack last start len) = len
len_in (Ack head) = 0
len_in (Nack head) = 0

-- the table of docs/FORMATS.md for a packet by itself; limit is the largest total
unfoldable pub lines : ℕ → PacketFields → List Line
lines limit f =
    line 2 (ltb f.size start_size || (not (is_control f) && ltb f.size f.header))
    ∷ line 3 (not (is_stream f.stream))
    ∷ line 12 (is_control f && not f.exact)
    ∷ line 4 (is_first f && not (eqb f.reserved reserved_byte))
    ∷ line 5 (not (is_control f) && not (eqb f.size (f.header + f.len)))
    ∷ line 6 (is_first f && ltb limit f.total)
    ∷ line 7 (not (is_control f) && (eqb f.len 0 && not (is_first f && eqb f.total 0)))
    ∷ line 8 (is_first f && ltb f.total f.len)
    ∷ []

-- what is told of the fields of a packet
abbrev pub judged : ℕ → PacketFields → Told Packet
judged limit f = table (lines limit f) refused (given (content_of f))

-- what is told of a packet
unfoldable pub read_of : ℕ → List ℕ → Told Packet
read_of limit p = judged limit (fields_of p)

abbrev pub number_of : Refusal → ℕ
number_of Short = 2
number_of UnknownStream = 3
number_of BadControl = 12
number_of Reserved = 4
number_of Length = 5
number_of TotalOver = 6
number_of Empty = 7
number_of AboveTotal = 8

-- the number of a refusal, or what the packet says
abbrev pub told : Result Packet Refusal → Told Packet
told = told_by number_of

-- ---- what the code reads of bytes 0 and 1 where the stream is known, but for the type

abbrev pub start_bits_of : Stream → ℕ → ℕ → StartBits
start_bits_of stream first second =
    record {
      head = record { stream = stream; id = id_bits first; sequence = sequence_bits second };
      ack = ack_bit second;
      extended = extender_bit second;
    }

abbrev pub fields_by_start : List ℕ → ℕ → StartBits → PacketFields
fields_by_start p kind s = fields_by p (stream_number s.head.stream) s.head.id s.head.sequence kind s.ack s.extended
