-- Joined packets, cut apart by their own headers.
use Rattle.std.specs.Prelude.{ℕ, zero, suc, ◌≤◌, ◌≡◌, List, [], ◌∷◌, length, take, drop}
use Rattle.ble_packet_end.specs.End.{said_length}
use Rattle.ble_sender.specs.declared.writer.Sending.{Sending}
use Rattle.ble_sender.specs.Piece.{least_room}
use Rattle.ble_sender.specs.Writer.{packets_of}
use Rattle.ble_joined.specs.Joined.{joined_of}

-- the packets at the head of the bytes, at most `fuel` of them
abbrev pub cut_from : ℕ → List ℕ → List (List ℕ)
cut_from zero s = []
cut_from (suc fuel) [] = []
cut_from (suc fuel) (b ∷ s) = take (said_length (b ∷ s)) (b ∷ s) ∷ cut_from fuel (drop (said_length (b ∷ s)) (b ∷ s))

-- all of them: no packet is empty, so that as many as there are bytes is enough
unfoldable pub cut_apart : List ℕ → List (List ℕ)
cut_apart s = cut_from (length s) s

-- Cut apart, the joined packets of a message are its packets, whatever the message, stream, id and sequence are. Of the room only
-- its least is asked: below it the writer refuses.
abbrev pub JoinedCutApart : Type 0
JoinedCutApart = (w : Sending) (m : List ℕ) → least_room ≤ w.room → cut_apart (joined_of w m) ≡ packets_of w m
