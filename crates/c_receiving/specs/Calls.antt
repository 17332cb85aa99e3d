-- Receiving over Low Energy for C: the calls that open a receiver and give it one packet.
use Rattle.std.specs.Prelude.{ℕ, Bool, cond, ◌&&◌, List, [], length, eqb}
use Rattle.wire.specs.Told.{Told, given, refused}
use Rattle.ble_slot.specs.declared.Slot.{Slot}
use Rattle.ble_slot.specs.declared.answer.Accepted.{Accepted}
use Rattle.ble_receiver.specs.declared.Receiver.{Receiver}
use Rattle.ble_receiver.specs.Receiver.{link_of, open_of, call, PacketLeft, accept_of}
use Rattle.c_rows.specs.Row.{afterwards, number_told, byte_or, out_of_range}
use Rattle.c_rows.specs.Called.{Called, called, if_fit}
use Rattle.c_receiving.specs.Convert.{state_row, limit_of, answer_row}

-- the state row after an opening
abbrev pub opened : List ℕ → Told Receiver → Called
opened state (given x) = called 0 (state_row x) [] []
opened state (refused n) = called n state [] []

unfoldable pub receiver_open_of : ℕ → List ℕ → Called
receiver_open_of limit state = if_fit (eqb (length state) 1) state [] [] (opened state (open_of limit))

-- ---- one packet

-- what a call leaves: the number that it returns, the row of slots, the lent buffer, the answer row and the answer buffer
pub record AcceptCalled : Type 0 where
  pub number : ℕ
  pub slots : List Slot
  pub lent : List ℕ
  pub answer : List ℕ
  pub out : List ℕ

abbrev pub replied : ℕ → List Slot → List ℕ → List ℕ → List ℕ → AcceptCalled
replied n slots lent answer out = record { number = n; slots = slots; lent = lent; answer = answer; out = out }

-- rows and lent bytes after a packet
abbrev pub accepted : List ℕ → PacketLeft → AcceptCalled
accepted answer l = replied (number_told l.told) l.slots l.bytes (afterwards (number_told l.told) answer (answer_row l.told)) l.out

-- a state row of one number, and an answer row of eight
abbrev pub sizes_fit : List ℕ → ℕ → Bool
sizes_fit state size = eqb size 8 && eqb (length state) 1

unfoldable pub receiver_accept_of : List ℕ → List Slot → List ℕ → List ℕ → ℕ → List ℕ → List ℕ → AcceptCalled
receiver_accept_of state slots lent packet sequence out answer =
    cond (sizes_fit state (length answer))
    (accepted answer (accept_of (limit_of state) slots lent (call packet (byte_or out_of_range sequence) out)))
    (replied 1 slots lent answer out)

-- ---- the parts of such a call

-- the link of a state row, for an answer row of a size: rows of other lengths are taken for a link of limit 0
unfoldable pub link_at : List ℕ → ℕ → Receiver
link_at state size = cond (sizes_fit state size) (link_of (limit_of state)) (link_of 0)

-- what is told of a packet: the number, and the answer row, which stays if it has another length
unfoldable pub told_row : List ℕ → Told Accepted → Called
told_row answer t =
    called (number_told t) [] [] (cond (eqb (length answer) 8) (afterwards (number_told t) answer (answer_row t)) answer)
