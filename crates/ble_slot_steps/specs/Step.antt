-- What a packet does to the slots of its stream: nothing but an answer, or a step of one slot.
use Rattle.std.specs.Prelude.{ℕ, suc, ◌+◌, List, [], ◌∷◌, Bool, false, not, cond, ◌||◌, get_or, leb, eqb, Option, None, Some}
use Rattle.wire.specs.Bytes.{bit}
use Rattle.wire.specs.Told.{Told, given, refused, Line, line, table}
use Rattle.ble_packet.specs.declared.reader.Head.{Head}
use Rattle.ble_packet.specs.declared.reader.Packet.{Packet}
use Rattle.ble_packet.specs.declared.reader.Packet.TheVariants.{First, Next, Ack, Nack}
use Rattle.ble_packet.specs.Header.{sequence_after}
use Rattle.ble_slot.specs.declared.Slot.{Slot}
use Rattle.ble_slot_steps.specs.declared.PayloadPlace.{PayloadPlace}
use Rattle.ble_slot.specs.declared.answer.Accepted.{Accepted}
use Rattle.ble_slot.specs.declared.answer.Accepted.TheVariants.{Taken, Finished, Acked, Nacked}
use Rattle.ble_slot_steps.specs.declared.Step as code
use Rattle.ble_slot.specs.Slot.{opens, wants, idle, is_open, is_idle}
use Rattle.ble_slot.specs.Answer as answer

-- what is told, the slot afterwards, and the payload that is written
pub record Step : Type 0 where
  pub told : Told Accepted
  pub slot : Slot
  pub payload : PayloadPlace

-- what is done with a packet: an answer that leaves all, or a step of the slot at a spot among its stream's
pub data Act : Type 0 where
  still : Told Accepted → Act
  step : ℕ → Step → Act

-- ---- a step of the slot at an index of the row

-- no bytes
abbrev pub nothing : PayloadPlace
nothing = record { at = 0; start = 0; len = 0 }

-- the transaction is finished: its wish for an ACK is told, and its slot idle
unfoldable pub finish : ℕ → Head → Bool → ℕ → Bool → PayloadPlace → Step
finish index head wanted total replaced payload =
    record { told = given (Finished index head.stream head.id total wanted replaced); slot = idle; payload = payload }

-- more is to come: the slot holds all up to the payload's end, and remembers the wish
unfoldable pub hold : ℕ → Head → Bool → ℕ → Bool → PayloadPlace → Step
hold index head wanted total replaced payload =
    record {
      told = given (Taken index head.stream head.id replaced);
      slot = record { opened = 1; id = head.id; sequence = head.sequence; wanted = bit wanted; total = total; held = payload.at + payload.len };
      payload = payload;
    }

-- the transaction is dropped: its slot is idle, its wish forgotten, and nothing is written
unfoldable pub drop_by : ℕ → Step
drop_by n = record { told = refused n; slot = idle; payload = nothing }

-- a first packet replaces what is open, its wish too; one whose payload equals its total finishes at once
unfoldable pub first_step : ℕ → Slot → Head → Bool → ℕ → ℕ → ℕ → Step
first_step index s head ack total start len =
    cond (eqb len total) (finish index head ack total (opens s) (record { at = 0; start = start; len = len }))
    (hold index head ack total (opens s) (record { at = 0; start = start; len = len }))

-- type 1 reaches or passes the total, or type 2 misses it
abbrev pub off_total : Bool → ℕ → ℕ → Bool
off_total last held total = cond last (not (eqb held total)) (leb total held)

-- the lines of the table on a packet that follows in an open transaction
abbrev pub lines : Slot → Head → Bool → ℕ → List Line
lines s head last len =
    line 10 (not (eqb head.sequence (sequence_after s.sequence 1)))
    ∷ line 11 (off_total last (s.held + len) s.total)
    ∷ []

-- it is written behind what is held, and adds its flag to the wish; 10 and 11 drop the transaction
unfoldable pub next_step : ℕ → Slot → Head → Bool → Bool → ℕ → ℕ → Step
next_step index s head ack last start len =
    table (lines s head last len) drop_by
    (cond last (finish index head (wants s || ack) s.total false (record { at = s.held; start = start; len = len }))
    (hold index head (wants s || ack) s.total false (record { at = s.held; start = start; len = len })))

-- ---- the slots of a stream

-- one spot further
abbrev pub further : Option ℕ → Option ℕ
further None = None
further (Some spot) = Some (suc spot)

abbrev pub or_else : Option ℕ → Option ℕ → Option ℕ
or_else None other = other
or_else (Some spot) other = Some spot

-- the spot of the first slot that passes a test
abbrev pub spot_where : (Slot → Bool) → List Slot → Option ℕ
spot_where test [] = None
spot_where test (s ∷ ss) = cond (test s) (Some 0) (further (spot_where test ss))

-- a step at the spot that was found, or a refusal that leaves all
abbrev pub at_spot : ℕ → (ℕ → Step) → Option ℕ → Act
at_spot n f None = still (refused n)
at_spot n f (Some spot) = step spot (f spot)

-- where the id of a packet is open
abbrev pub open_spot : List Slot → ℕ → Option ℕ
open_spot lane id = spot_where (is_open id) lane

-- where the id of a first packet is open, or else the lowest idle slot
abbrev pub first_spot : List Slot → ℕ → Option ℕ
first_spot lane id = or_else (open_spot lane id) (spot_where is_idle lane)

-- what a packet does to its stream's slots, which begin at an index of the row: 18 where a first packet finds no slot, 9 where no
-- transaction of a later one's id is open
abbrev pub act_of : ℕ → List Slot → Packet → Act
act_of first lane (First head ack total start len) =
    at_spot 18 (λ spot. first_step (first + spot) (get_or lane spot idle) head ack total start len) (first_spot lane head.id)
act_of first lane (Next head ack last start len) =
    at_spot 9 (λ spot. next_step (first + spot) (get_or lane spot idle) head ack last start len) (open_spot lane head.id)
act_of first lane (Ack head) = still (given (Acked head))
act_of first lane (Nack head) = still (given (Nacked head))

-- ---- what the code decides

-- a step with the index of its slot in the row
pub record StepAt : Type 0 where
  pub index : ℕ
  pub step : Step

abbrev pub step_at : ℕ → Step → StepAt
step_at index s = record { index = index; step = s }

-- what is done, by the one slot that is stored: what leaves all stores the first of its stream's slots as it was, and writes nothing
abbrev pub act_at : ℕ → List Slot → Act → StepAt
act_at first lane (still t) = step_at first (record { told = t; slot = get_or lane 0 idle; payload = nothing })
act_at first lane (step spot s) = step_at (first + spot) s

unfoldable pub step_of : code.Step → StepAt
step_of s = step_at s.index (record { told = answer.told s.answer; slot = s.slot; payload = s.payload })
