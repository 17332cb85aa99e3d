-- The packets of a message, joined one after another.
use Rattle.std.specs.Prelude.{ℕ, ◌+◌, ◌-◌, ◌≤◌, ◌<◌, ◌≡◌, Bool, cond, ◌&&◌, List, [], ◌∷◌, ◌++◌, length, drop, ltb, leb, eqb}
use Rattle.ble_packet.specs.Header.{four_bits, header_size}
use Rattle.ble_sender.specs.declared.piece.Piece.{Piece}
use Rattle.ble_sender.specs.declared.writer.Sending.{Sending}
use Rattle.ble_sender.specs.Piece.{least_room, extended, is_first, pieces_of}
use Rattle.ble_sender.specs.Writer.{packets_of}

-- lists of bytes, one after another
abbrev pub concat : List (List ℕ) → List ℕ
concat [] = []
concat (p ∷ ps) = p ++ concat ps

-- all packets of a message, joined
abbrev pub joined_of : Sending → List ℕ → List ℕ
joined_of w m = concat (packets_of w m)

-- the bytes of the packets of pieces, by their sizes
abbrev pub sizes : List Piece → ℕ
sizes [] = 0
sizes (p ∷ ps) = header_size (is_first p.index) (extended p.size) + p.size + sizes ps

-- there is a piece in every packet, and the total fits its field
unfoldable pub countable : ℕ → ℕ → Bool
countable room total = leb least_room room && ltb total 65536

-- the length of all packets of a message of that length; 0 where it has none
unfoldable pub joined_length : ℕ → ℕ → ℕ
joined_length room total = cond (countable room total) (sizes (pieces_of room total)) 0

-- a message of that length at the end of an output
abbrev pub message_in : ℕ → List ℕ → List ℕ
message_in total out = drop (length out - total) out

-- stream and id fit their fields, and the output is exactly as long as the packets
unfoldable pub is_exact : Sending → ℕ → ℕ → Bool
is_exact w total space =
    ((ltb w.stream four_bits && ltb w.id four_bits) && countable w.room total) && eqb space (sizes (pieces_of w.room total))

-- then the packets stand in place of the message; any other output stays as it was
abbrev pub joined_over : Sending → ℕ → List ℕ → List ℕ
joined_over w total out = cond (is_exact w total (length out)) (joined_of w (message_in total out)) out

-- ---- below the guard

-- the packet of a piece goes to a place, and its bytes stand no earlier than where they go
pub record PacketFits (w : Sending) (total space at : ℕ) (p : Piece) (from : ℕ) : Type 0 where
  pub low-stream : w.stream < four_bits
  pub low-id : w.id < four_bits
  pub low-total : total < 65536
  pub inside : p.start + p.size ≤ total
  pub earlier : at + header_size (is_first p.index) (extended p.size) ≤ from
  pub within : from + p.size ≤ space

-- a message can be joined: the output is exactly as long as its packets
pub record JoinsExactly (w : Sending) (total : ℕ) (out : List ℕ) : Type 0 where
  pub low-stream : w.stream < four_bits
  pub low-id : w.id < four_bits
  pub low-total : total < 65536
  pub room : least_room ≤ w.room
  pub long : length out ≡ sizes (pieces_of w.room total)
