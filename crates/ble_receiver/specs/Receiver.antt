-- The receiver of Low Energy: its opening, and one packet given to it over a lent row of slots, with a sequence and a buffer for the ACK
-- that it may want: what is told, the row, the lent buffer and the answer buffer afterwards.
use Rattle.std.specs.Prelude.{ℕ, ◌+◌, ◌*◌, List, [], ◌∷◌, Bool, true, false, not, cond, ◌&&◌, length, set, ltb, eqb}
use Rattle.std.specs.Prelude
use Rattle.std.proofs.lemmas.List.Edits.{sets}
use Rattle.wire.specs.Told.{Told, told_by, given, refused, Line, line, table}
use Rattle.wire.specs.declared.limit.BadLimit.{BadLimit}
use Rattle.wire.specs.Limit.{limit_fits, limit_number}
use Rattle.wire.specs.Stream.{stream_number}
use Rattle.ble_packet.specs.declared.reader.Packet.{Packet}
use Rattle.ble_packet.specs.Header.{four_bits, first_byte}
use Rattle.ble_packet.specs.Control.{ack_size, ack_bytes}
use Rattle.ble_packet.specs.Reader.{head_in, read_of}
use Rattle.ble_slot.specs.declared.Slot.{Slot}
use Rattle.ble_slot.specs.declared.answer.Accepted.{Accepted}
use Rattle.ble_slot.specs.declared.answer.Accepted.TheVariants.{Taken, Finished, Acked, Nacked}
use Rattle.ble_slot.specs.Slot.{slot_count, lane_start, lane_of, lawful}
use Rattle.ble_slot_steps.specs.Step.{Act, still, step, act_of}
use Rattle.ble_receiver.specs.declared.Receiver.{Receiver}
use Rattle.ble_receiver.specs.Buffer.{stored}

-- the state of a link: its limit
abbrev pub link_of : ℕ → Receiver
link_of limit = record { limit = limit }

-- a receiver opened: its state, or 17
unfoldable pub open_of : ℕ → Told Receiver
open_of limit = table (line 17 (not (limit_fits limit)) ∷ []) refused (given (link_of limit))

-- what an opening tells
abbrev pub told_open : Prelude.Result Receiver BadLimit → Told Receiver
told_open = told_by limit_number

-- ---- one packet

pub record Result : Type 0 where
  pub told : Told Accepted
  pub slots : List Slot
  pub bytes : List ℕ

abbrev pub result : Told Accepted → List Slot → List ℕ → Result
result t slots bytes = record { told = t; slots = slots; bytes = bytes }

-- what is done to the row and the buffer: nothing, or a step at the spot of its slot; the stream's slots begin at `first`
abbrev pub applied : ℕ → List Slot → List ℕ → List ℕ → ℕ → Act → Result
applied limit slots bytes packet first (still t) = result t slots bytes
applied limit slots bytes packet first (step spot s) =
    result s.told (set slots (first + spot) s.slot) (stored limit (first + spot) bytes packet s.payload)

-- what a packet that was read does to its stream's slots
abbrev pub act_in : List Slot → Packet → Act
act_in slots x = act_of (lane_start (head_in x).stream) (lane_of (head_in x).stream slots) x

-- what is done with what was read: a refused packet leaves all
abbrev pub acted : ℕ → List Slot → List ℕ → List ℕ → Told Packet → Result
acted limit slots bytes packet (refused n) = result (refused n) slots bytes
acted limit slots bytes packet (given x) = applied limit slots bytes packet (lane_start (head_in x).stream) (act_in slots x)

-- a packet of a stream and an id, by its byte 0; one without bytes belongs to none
abbrev pub is_for : ℕ → ℕ → List ℕ → Bool
is_for stream id [] = false
is_for stream id (b ∷ rest) = eqb b (first_byte stream id)

-- a limit in its range, a buffer of the right size and a lawful row
unfoldable pub ready : ℕ → List Slot → ℕ → Bool
ready limit slots size = limit_fits limit && (eqb size (slot_count * limit) && lawful limit slots)

-- ---- the ACK

-- a packet as it is handed in, with the answer sequence and the answer buffer
pub record PacketCall : Type 0 where
  pub packet : List ℕ
  pub sequence : ℕ
  pub out : List ℕ

abbrev pub call : List ℕ → ℕ → List ℕ → PacketCall
call packet sequence out = record { packet = packet; sequence = sequence; out = out }

-- what a call leaves
pub record PacketLeft : Type 0 where
  pub told : Told Accepted
  pub slots : List Slot
  pub bytes : List ℕ
  pub out : List ℕ

abbrev pub left : Told Accepted → List Slot → List ℕ → List ℕ → PacketLeft
left t slots bytes out = record { told = t; slots = slots; bytes = bytes; out = out }

-- a finished transaction that wants an ACK writes it first in the answer buffer; every other answer leaves all of it
abbrev pub answered : ℕ → Told Accepted → List ℕ → List ℕ
answered sequence (given (Finished index stream id total ack replaced)) out = cond ack (sets out 0 (ack_bytes (stream_number stream) id sequence true)) out
answered sequence (given (Taken index stream id replaced)) out = out
answered sequence (given (Acked head)) out = out
answered sequence (given (Nacked head)) out = out
answered sequence (refused n) out = out

abbrev pub leaves : ℕ → List ℕ → Result → PacketLeft
leaves sequence out r = left r.told r.slots r.bytes (answered sequence r.told out)

-- an answer sequence above 15 and an answer buffer under six bytes
abbrev pub answer_lines : PacketCall → List Line
answer_lines c = line 15 (not (ltb c.sequence four_bits)) ∷ line 14 (ltb (length c.out) ack_size) ∷ []

-- what is told of a call's packet: 15 and 14 before it is looked at
unfoldable pub read_in : ℕ → PacketCall → Told Packet
read_in limit c = table (answer_lines c) refused (read_of limit c.packet)

-- a packet given to the receiver
unfoldable pub accept_of : ℕ → List Slot → List ℕ → PacketCall → PacketLeft
accept_of limit slots bytes c =
    table (line 1 (not (ready limit slots (length bytes))) ∷ []) (λ n. left (refused n) slots bytes c.out)
    (leaves c.sequence c.out (acted limit slots bytes c.packet (read_in limit c)))
