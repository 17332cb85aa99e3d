-- Where the packet at the front of some bytes ends, by its own header; and that packet read.
use Rattle.std.specs.Prelude.{ℕ, ◌+◌, Bool, cond, List, get_or, take, eqb}
use Rattle.wire.specs.Told.{Told}
use Rattle.ble_packet.specs.declared.reader.Packet.{Packet}
use Rattle.ble_packet.specs.Header.{type_first, type_control, header_size, length_place, type_bits, extender_bit}
use Rattle.ble_packet.specs.Control.{ack_size}
use Rattle.ble_packet.specs.Reader.{length_at, read_of}

-- the header's size, and the payload length that stands there
abbrev pub said_by : List ℕ → Bool → Bool → ℕ
said_by s first extended = header_size first extended + length_at s (length_place first) extended

-- of a packet of a message: byte 1 says whether it is a first one, and whether its length has two bytes
unfoldable pub said_length : List ℕ → ℕ
said_length s = said_by s (eqb (type_bits (get_or s 1 0)) type_first) (extender_bit (get_or s 1 0))

-- an ACK or NACK has its one size; a byte that is not there counts as 0
unfoldable pub end_of : List ℕ → ℕ
end_of s = cond (eqb (type_bits (get_or s 1 0)) type_control) ack_size (said_length s)

-- what is told of the packet at the front: bytes that end before it does are read as they are, and refused
unfoldable pub front_of : ℕ → List ℕ → Told Packet
front_of limit s = read_of limit (take (end_of s) s)
