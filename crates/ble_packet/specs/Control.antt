-- The layout of ACK and NACK packets: what the reader and their writer share.
use Rattle.std.specs.Prelude.{ℕ, List, [], ◌∷◌, Bool, false, cond}
use Rattle.ble_packet.specs.Header.{type_control, first_byte, second_byte}

-- the code: 00 in an ACK, 03 in a NACK
abbrev pub ack_code : Bool → ℕ
ack_code positive = cond positive 0 3

-- what follows the first two bytes: 00 02 01 and the code
abbrev pub ack_tail : Bool → List ℕ
ack_tail positive = 0 ∷ 2 ∷ 1 ∷ ack_code positive ∷ []

abbrev pub ack_size : ℕ
ack_size = 6

-- the whole packet, an ACK where positive is true and a NACK where not: stream and id are the request's
abbrev pub ack_bytes : ℕ → ℕ → ℕ → Bool → List ℕ
ack_bytes stream id sequence positive =
    first_byte stream id ∷ second_byte sequence type_control positive false ∷ ack_tail positive
