-- Receiving over Low Energy: the receiver's state and answers as rows.
use Rattle.std.specs.Prelude.{ℕ, List, [], ◌∷◌, get_or, replicate}
use Rattle.wire.specs.Bytes.{bit}
use Rattle.wire.specs.Told.{Told, given, refused}
use Rattle.wire.specs.Stream.{stream_number}
use Rattle.ble_packet.specs.declared.reader.Head.{Head}
use Rattle.ble_slot.specs.declared.answer.Accepted.{Accepted}
use Rattle.ble_slot.specs.declared.answer.Accepted.TheVariants.{Taken, Finished, Acked, Nacked}
use Rattle.ble_receiver.specs.declared.Receiver.{Receiver}

-- ---- the state row: the limit

abbrev pub state_row : Receiver → List ℕ
state_row x = x.limit ∷ []

abbrev pub limit_of : List ℕ → ℕ
limit_of row = get_or row 0 0

-- ---- the answer row: outcome, stream, id, sequence, total, ACK wanted, replaced, place; 0 where a case has no such value

-- an ACK or a NACK
abbrev pub head_row : ℕ → Head → List ℕ
head_row outcome head = outcome ∷ stream_number head.stream ∷ head.id ∷ head.sequence ∷ 0 ∷ 0 ∷ 0 ∷ 0 ∷ []

-- outcomes: 0 taken with more to come, 1 finished, 2 an ACK, 3 a NACK
abbrev pub accepted_row : Accepted → List ℕ
accepted_row (Taken index stream id replaced) = 0 ∷ stream_number stream ∷ id ∷ 0 ∷ 0 ∷ 0 ∷ bit replaced ∷ index ∷ []
accepted_row (Finished index stream id total ack replaced) = 1 ∷ stream_number stream ∷ id ∷ 0 ∷ total ∷ bit ack ∷ bit replaced ∷ index ∷ []
accepted_row (Acked head) = head_row 2 head
accepted_row (Nacked head) = head_row 3 head

abbrev pub answer_row : Told Accepted → List ℕ
answer_row (given accepted) = accepted_row accepted
answer_row (refused n) = replicate 8 0
