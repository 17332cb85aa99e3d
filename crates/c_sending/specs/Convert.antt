-- Sending over Low Energy: what the writers are given by numbers, and what they answer.
use Rattle.std.specs.Prelude.{ℕ, cond, List, [], ◌∷◌, ltb, eqb, unwrap_or}
use Rattle.wire.specs.Told.{Told, given, refused}
use Rattle.ble_sender.specs.declared.writer.Sending.{Sending}
use Rattle.ble_sender.specs.declared.writer.Sent.{Sent}
use Rattle.c_rows.specs.Row.{byte_or, out_of_range}

-- a stream, where the wish beside it is 0 or 1; with any other wish it stands for no stream, which is out of range: 15 in the library's order
unfoldable pub stream_with : ℕ → ℕ → ℕ
stream_with wish stream = cond (ltb wish 2) (byte_or out_of_range stream) out_of_range

-- how a message is sent: a number above 255 stands for one that is out of range
unfoldable pub sending_of : ℕ → ℕ → ℕ → ℕ → ℕ → Sending
sending_of room stream id sequence ack =
    record {
      room = room;
      stream = stream_with ack stream;
      id = byte_or out_of_range id;
      sequence = byte_or out_of_range sequence;
      ack = eqb ack 1;
    }

-- written, next place; where it was the last packet, the next place is the message's end
abbrev pub packet_row : ℕ → Told Sent → List ℕ
packet_row end (given s) = s.length ∷ unwrap_or s.next end ∷ []
packet_row end (refused n) = 0 ∷ 0 ∷ []
