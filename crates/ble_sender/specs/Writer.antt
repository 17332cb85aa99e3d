-- One packet of a message, written at a place.
use Rattle.std.specs.Prelude.{ℕ, ◌+◌, ◌≤◌, ◌<◌, List, [], ◌∷◌, ◌++◌, map, Bool, true, false, cond, not, ◌&&◌, length, take, drop, ltb, leb, eqb, Option, None, Some, unwrap_or, Result}
use Rattle.std.proofs.lemmas.List.Edits.{sets}
use Rattle.wire.specs.Bytes.{pair_bytes}
use Rattle.wire.specs.Limit.{limit_fits}
use Rattle.wire.specs.Told.{Told, told_by, given, refused, Line, line, table, Written, writes}
use Rattle.ble_packet.specs.Header.{four_bits, in_range, reserved_byte, type_first, type_continuation, type_last, header_size, first_byte, second_byte, sequence_after}
use Rattle.ble_sender.specs.declared.piece.Piece.{Piece}
use Rattle.ble_sender.specs.declared.writer.Sending.{Sending}
use Rattle.ble_sender.specs.declared.writer.Refusal.{Refusal}
use Rattle.ble_sender.specs.declared.writer.Refusal.TheVariants.{Room, Limit, Argument, Output}
use Rattle.ble_sender.specs.declared.writer.Sent.{Sent}
use Rattle.ble_sender.specs.Piece.{least_room, largest_room, extended, is_first, pieces_of, piece_at}

-- ---- the packet of a piece

-- first or only, continuation, last
abbrev pub type_for : Bool → Bool → ℕ
type_for first last = cond first type_first (cond last type_last type_continuation)

-- bytes 0 and 1: the sequence is the first plus the piece's index, and the ACK flag stands on the last packet only
abbrev pub start_bytes : Sending → Piece → Bool → List ℕ
start_bytes w p last =
    first_byte w.stream w.id
    ∷ second_byte (sequence_after w.sequence p.index) (type_for (is_first p.index) last) (last && w.ack) (extended p.size)
    ∷ []

-- a first packet then has a reserved byte and the total
abbrev pub total_bytes : Bool → ℕ → List ℕ
total_bytes first total = cond first (reserved_byte ∷ pair_bytes total) []

-- the payload length: one byte, or two with the extender
abbrev pub length_bytes : ℕ → List ℕ
length_bytes n = cond (extended n) (pair_bytes n) (n ∷ [])

-- the header of the packet of a piece
unfoldable pub header_bytes : Sending → ℕ → Piece → Bool → List ℕ
header_bytes w total p last = start_bytes w p last ++ total_bytes (is_first p.index) total ++ length_bytes p.size

-- the last piece ends where the message ends
abbrev pub is_last : ℕ → Piece → Bool
is_last length p = eqb (p.start + p.size) length

-- the packet of a piece: its header, then its bytes
unfoldable pub packet_of : Sending → List ℕ → Piece → List ℕ
packet_of w m p = header_bytes w (length m) p (is_last (length m) p) ++ take p.size (drop p.start m)

-- all packets of a message, in order
abbrev pub packets_of : Sending → List ℕ → List (List ℕ)
packets_of w m = map (packet_of w m) (pieces_of w.room (length m))

-- ---- the refusals

-- room out of range; limit out of range; another argument out of range; output smaller than the room
abbrev pub number_of : Refusal → ℕ
number_of Room = 13
number_of Limit = 17
number_of Argument = 15
number_of Output = 14

-- a room of 20 to 512
unfoldable pub room_fits : ℕ → Bool
room_fits room = leb least_room room && leb room largest_room

-- stream, id, sequence and the length of the message in their ranges
unfoldable pub arguments_fit : ℕ → Sending → ℕ → Bool
arguments_fit limit w length = in_range w.stream w.id w.sequence && leb length limit

-- whether a piece begins at the place
abbrev pub begins : Option Piece → Bool
begins None = false
begins (Some p) = true

-- the piece of a message of that length which begins at the place
abbrev pub found_at : Sending → ℕ → ℕ → Option Piece
found_at w length place = piece_at place (pieces_of w.room length)

-- the table; a place where no piece begins is an argument out of range
abbrev pub lines : ℕ → Sending → ℕ → Option Piece → ℕ → List Line
lines limit w length found space =
    line 13 (not (room_fits w.room))
    ∷ line 17 (not (limit_fits limit))
    ∷ line 15 (not (arguments_fit limit w length && begins found))
    ∷ line 14 (ltb space w.room)
    ∷ []

-- ---- what is told, and the output afterwards

-- the length of the packet, and the place of the next piece
abbrev pub more : ℕ → ℕ → Sent
more n next = record { length = n; next = Some next }

-- or that it was the last
abbrev pub last : ℕ → Sent
last n = record { length = n; next = None }

abbrev pub sent_for : Bool → ℕ → ℕ → Sent
sent_for final n next = cond final (last n) (more n next)

-- what is told of the packet of a piece
abbrev pub sent_of : Sending → List ℕ → Piece → Sent
sent_of w m p = sent_for (is_last (length m) p) (length (packet_of w m p)) (p.start + p.size)

-- the number of a refusal, or what was sent
abbrev pub told : Result Sent Refusal → Told Sent
told = told_by number_of

-- the piece that is written, where one begins
abbrev pub piece_of : Option Piece → Piece
piece_of found = unwrap_or found (record { index = 0; start = 0; size = 0 })

-- the packet of the piece that begins at the place stands first in the output, and nothing else changes
unfoldable pub written_of : ℕ → Sending → List ℕ → ℕ → List ℕ → Written Sent
written_of limit w m place out =
    writes (lines limit w (length m) (found_at w (length m) place) (length out))
    (sent_of w m (piece_of (found_at w (length m) place)))
    out
    (sets out 0 (packet_of w m (piece_of (found_at w (length m) place))))

-- ---- below the guard

-- the number of a refusal, or the piece to write
abbrev pub decision_of : Result Piece Refusal → Told Piece
decision_of = told_by number_of

-- the first line of the table that holds, or the piece that begins at the place
unfoldable pub decided : ℕ → Sending → ℕ → ℕ → ℕ → Told Piece
decided limit w length place space =
    table (lines limit w length (found_at w length place) space) refused (given (piece_of (found_at w length place)))

-- the packet of a piece of a message of that length can be written in this much output
pub record Writes (w : Sending) (length : ℕ) (space : ℕ) (p : Piece) : Type 0 where
  pub low-stream : w.stream < four_bits
  pub low-id : w.id < four_bits
  pub low-total : length < 65536
  pub inside : p.start + p.size ≤ length
  pub header-fits : header_size (is_first p.index) (extended p.size) + p.size ≤ space

-- the same of a decision to write
abbrev pub WritesGiven : Sending → ℕ → ℕ → Told Piece → Type 0
WritesGiven w length space (refused n) = Unit {0}
WritesGiven w length space (given p) = Writes w length space p
