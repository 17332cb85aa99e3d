-- What is open on a stream of a sender that is judged, and a packet of it.
use Rattle.std.specs.Prelude.{ℕ, ◌-◌, Bool, true, false, cond, not, ◌&&◌, ◌||◌, eqb, Some, None}
use Rattle.std.specs.Prelude as code
use Rattle.std.proofs.Math.Option.{Option, none, some}
use Rattle.ble_packet.specs.declared.reader.Head.{Head}
use Rattle.ble_packet.specs.declared.reader.Packet.{Packet}
use Rattle.ble_packet.specs.declared.reader.Packet.TheVariants.{First, Next, Ack, Nack}
use Rattle.ble_packet.specs.Header.{header_size, sequence_after}
use Rattle.ble_sender.specs.Piece.{extended, size_for}
use Rattle.capture_stream.specs.declared.SenderSlot.{SenderSlot}
use Rattle.capture_stream.specs.declared.SenderSlot.TheVariants.{Idle, Open}

abbrev pub is_idle : SenderSlot → Bool
is_idle Idle = true
is_idle (Open id left sequence) = false

-- the same truth
abbrev pub same : Bool → Bool → Bool
same a b = cond a b (not b)

-- Of a packet's piece of len bytes, where this many are left: it is the writer's piece, the extender stands only where it must, and the
-- ACK flag only on the last packet.
unfoldable pub fits_piece : ℕ → Bool → ℕ → Bool → ℕ → ℕ → Bool
fits_piece room first left ack start len =
    eqb len (size_for room first left) && (eqb start (header_size first (extended len)) && (not ack || eqb len left))

-- what is open when `left` bytes are still to come
abbrev pub slot_for : ℕ → ℕ → ℕ → SenderSlot
slot_for id left sequence = cond (eqb left 0) Idle (Open id left sequence)

-- a first packet where nothing is open
unfoldable pub first_step : ℕ → Head → Bool → ℕ → ℕ → ℕ → Option SenderSlot
first_step room head ack total start len =
    cond (fits_piece room true total ack start len) (some (slot_for head.id (total - len) (sequence_after head.sequence 1))) none

-- a packet that follows, where a transaction is open: its id, the next sequence, and the last packet where it takes all that is left
unfoldable pub next_fits : ℕ → ℕ → ℕ → ℕ → Head → Bool → Bool → ℕ → ℕ → Bool
next_fits room id left sequence head ack last start len =
    eqb head.id id && (eqb head.sequence sequence && (fits_piece room false left ack start len && same last (eqb len left)))

unfoldable pub next_step : ℕ → ℕ → ℕ → ℕ → Head → Bool → Bool → ℕ → ℕ → Option SenderSlot
next_step room id left sequence head ack last start len =
    cond (next_fits room id left sequence head ack last start len) (some (slot_for id (left - len) (sequence_after sequence 1))) none

-- the slot after a packet that our writer would write now; none where it would not
abbrev pub slot_step : ℕ → SenderSlot → Packet → Option SenderSlot
slot_step room Idle (First head ack total start len) = first_step room head ack total start len
slot_step room Idle (Next head ack last start len) = none
slot_step room Idle (Ack head) = some Idle
slot_step room Idle (Nack head) = some Idle
slot_step room (Open id left sequence) (First head ack total start len) = none
slot_step room (Open id left sequence) (Next head ack last start len) = next_step room id left sequence head ack last start len
slot_step room (Open id left sequence) (Ack head) = some (Open id left sequence)
slot_step room (Open id left sequence) (Nack head) = some (Open id left sequence)

-- ---- what the code tells

abbrev pub moved_to : code.Option SenderSlot → Option SenderSlot
moved_to None = none
moved_to (Some slot) = some slot
