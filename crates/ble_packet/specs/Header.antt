-- The header of a Low Energy packet: the layout that the reader and the writers share.
use Rattle.std.specs.Prelude.{ℕ, ◌+◌, ◌-◌, ◌*◌, ◌/◌, ◌%◌, List, [], ◌∷◌, Bool, false, cond, ◌&&◌, ltb, eqb}
use Rattle.wire.specs.Bytes.{bit}
use Rattle.wire.specs.Stream.{is_stream}

-- how many ids there are, and sequences: four bits each
abbrev pub four_bits : ℕ
four_bits = 16

-- a writer's stream, id and sequence in their ranges
unfoldable pub in_range : ℕ → ℕ → ℕ → Bool
in_range stream id sequence = is_stream stream && (ltb id four_bits && ltb sequence four_bits)

-- the types: first or only, continuation, last, control
abbrev pub type_first : ℕ
type_first = 0

abbrev pub type_continuation : ℕ
type_continuation = 1

abbrev pub type_last : ℕ
type_last = 2

abbrev pub type_control : ℕ
type_control = 3

-- the two bytes that every packet begins with
abbrev pub start_size : ℕ
start_size = 2

-- the header of a first packet, and of one that follows, where the payload length has one byte
abbrev pub first_header : ℕ
first_header = 6

abbrev pub next_header : ℕ
next_header = 3

abbrev pub least_header : Bool → ℕ
least_header first = cond first first_header next_header

-- where the payload length stands: right before the payload
abbrev pub length_place : Bool → ℕ
length_place first = least_header first - 1

-- the whole header: the extender gives the payload length one byte more
abbrev pub header_size : Bool → Bool → ℕ
header_size first extended = least_header first + bit extended

-- byte 2 of a first packet
abbrev pub reserved_byte : ℕ
reserved_byte = 0

-- byte 0: stream in the upper four bits, transaction id in the lower
abbrev pub first_byte : ℕ → ℕ → ℕ
first_byte stream id = stream * four_bits + id

-- byte 1, from the top: sequence 4 bits, type 2, ACK flag 1, extender 1
abbrev pub second_byte : ℕ → ℕ → Bool → Bool → ℕ
second_byte sequence kind ack extended = sequence * four_bits + kind * 4 + bit ack * 2 + bit extended

-- what byte 0 says
abbrev pub stream_bits : ℕ → ℕ
stream_bits first = first / four_bits

abbrev pub id_bits : ℕ → ℕ
id_bits first = first % four_bits

-- what byte 1 says
abbrev pub sequence_bits : ℕ → ℕ
sequence_bits second = second / four_bits % four_bits

abbrev pub type_bits : ℕ → ℕ
type_bits second = second / 4 % 4

abbrev pub ack_bit : ℕ → Bool
ack_bit second = eqb (second / 2 % 2) 1

abbrev pub extender_bit : ℕ → Bool
extender_bit second = eqb (second % 2) 1

-- the sequence n packets later: 0 follows 15
abbrev pub sequence_after : ℕ → ℕ → ℕ
sequence_after sequence n = (sequence + n) % four_bits

-- a packet's stream is the upper half of byte 0; one without bytes is of no stream
abbrev pub is_of : ℕ → List ℕ → Bool
is_of stream [] = false
is_of stream (first ∷ rest) = eqb (stream_bits first) stream
