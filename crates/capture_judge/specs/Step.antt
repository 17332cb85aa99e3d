-- One packet judged: a small state for each stream, and a pure step over it.
use Rattle.std.specs.Prelude.{ℕ, List, Bool, ◌&&◌, Some, None}
use Rattle.std.specs.Prelude as code
use Rattle.std.proofs.Math.Option.{Option, none, some}
use Rattle.wire.specs.Told.{Told, given, refused}
use Rattle.wire.specs.declared.stream.Stream.{Stream}
use Rattle.wire.specs.declared.stream.Stream.TheVariants.{Control, Ota, Alexa}
use Rattle.ble_packet.specs.declared.reader.Packet.{Packet}
use Rattle.ble_packet.specs.declared.reader.Packet.TheVariants.{First, Next, Ack, Nack}
use Rattle.ble_packet.specs.Reader.{read_of}
use Rattle.capture_stream.specs.declared.SenderSlot.{SenderSlot}
use Rattle.capture_stream.specs.declared.SenderSlot.TheVariants.{Idle}
use Rattle.capture_stream.specs.Slot.{is_idle, slot_step}
use Rattle.capture_judge.specs.declared.State.{State}

-- ---- the three streams

abbrev pub slot_in : State → Stream → SenderSlot
slot_in s Control = s.control
slot_in s Ota = s.ota
slot_in s Alexa = s.alexa

abbrev pub with_slot : State → Stream → SenderSlot → State
with_slot s Control slot = record { control = slot; ota = s.ota; alexa = s.alexa }
with_slot s Ota slot = record { control = s.control; ota = slot; alexa = s.alexa }
with_slot s Alexa slot = record { control = s.control; ota = s.ota; alexa = slot }

abbrev pub idle : State
idle = record { control = Idle; ota = Idle; alexa = Idle }

abbrev pub all_idle : State → Bool
all_idle s = is_idle s.control && (is_idle s.ota && is_idle s.alexa)

abbrev pub placed : State → Stream → Option SenderSlot → Option State
placed s stream none = none
placed s stream (some slot) = some (with_slot s stream slot)

-- what was read changes the slot of its stream; ACK and NACK packets may stand anywhere, and what cannot be read nowhere
abbrev pub step_by : ℕ → State → Told Packet → Option State
step_by room s (refused n) = none
step_by room s (given (First head ack total start len)) =
    placed s head.stream (slot_step room (slot_in s head.stream) (First head ack total start len))
step_by room s (given (Next head ack last start len)) =
    placed s head.stream (slot_step room (slot_in s head.stream) (Next head ack last start len))
step_by room s (given (Ack head)) = some s
step_by room s (given (Nack head)) = some s

unfoldable pub step_of : ℕ → ℕ → State → List ℕ → Option State
step_of room limit s p = step_by room s (read_of limit p)

-- by whether there is a state after a packet
abbrev pub after : {A : Type 0} → Option State → A → (State → A) → A
after none no-state go = no-state
after (some s) no-state go = go s

-- ---- what the code tells

abbrev pub stepped : code.Option State → Option State
stepped None = none
stepped (Some s) = some s
