-- The pieces of a message: each packet of it carries one.
use Rattle.std.specs.Prelude.{ℕ, zero, suc, ◌+◌, ◌-◌, List, [], ◌∷◌, Bool, cond, ltb, leb, eqb, Option, None, Some}
use Rattle.ble_packet.specs.Header.{header_size}
use Rattle.ble_sender.specs.declared.piece.Piece.{Piece}

-- n bytes from a place on
abbrev pub piece_for : ℕ → ℕ → ℕ → Piece
piece_for index start n = record { index = index; start = start; size = n }

-- the rooms: the largest whole packet, in bytes
abbrev pub least_room : ℕ
least_room = 20

abbrev pub largest_room : ℕ
largest_room = 512

-- the extender is used only above the largest length that one byte says
abbrev pub one_byte_length : ℕ
one_byte_length = 255

-- whether a payload of n bytes needs it
abbrev pub extended : ℕ → Bool
extended n = ltb one_byte_length n

-- a piece of n bytes fits its header in the room
abbrev pub fits : ℕ → Bool → ℕ → Bool
fits room first n = leb (header_size first (extended n) + n) room

-- the largest number up to a bound that passes a test; 0 where none does
abbrev pub largest : (ℕ → Bool) → ℕ → ℕ
largest test zero = zero
largest test (suc n) = cond (test (suc n)) (suc n) (largest test n)

-- each piece is the largest that is no more than the rest and fits its header in the room
unfoldable pub size_for : ℕ → Bool → ℕ → ℕ
size_for room first rest = largest (fits room first) rest

-- the size of a full piece: there is more left than the room holds
abbrev pub full_size : ℕ → Bool → ℕ
full_size room first = size_for room first room

-- whether a piece is the first
abbrev pub is_first : ℕ → Bool
is_first index = eqb index 0

-- the pieces of the rest of a message from a place on, until one takes all of it
abbrev pub pieces_from : ℕ → ℕ → ℕ → ℕ → ℕ → List Piece
pieces_from zero room index start rest = []
pieces_from (suc fuel) room index start rest =
    record { index = index; start = start; size = size_for room (is_first index) rest }
    ∷ cond (eqb (size_for room (is_first index) rest) rest) []
    (pieces_from fuel room (suc index) (start + size_for room (is_first index) rest) (rest - size_for room (is_first index) rest))

-- all pieces of a message of that length; an empty message has one, of no bytes
abbrev pub pieces_of : ℕ → ℕ → List Piece
pieces_of room length = pieces_from (suc length) room 0 0 length

-- the piece that begins at a place
abbrev pub piece_at : ℕ → List Piece → Option Piece
piece_at start [] = None
piece_at start (p ∷ ps) = cond (eqb p.start start) (Some p) (piece_at start ps)
