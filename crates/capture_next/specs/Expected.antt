-- What is expected is what the judge takes.
use Rattle.std.specs.Prelude.{ℕ, ◌≡◌, Bool, true, false, cond, not, ◌&&◌, ◌||◌, eqb, Some, None}
use Rattle.std.specs.Prelude as code
use Rattle.std.proofs.Math.Option.{Option, none, some}
use Rattle.ble_packet.specs.declared.reader.Head.{Head}
use Rattle.ble_packet.specs.declared.reader.Packet.{Packet}
use Rattle.ble_packet.specs.declared.reader.Packet.TheVariants.{First, Next, Ack, Nack}
use Rattle.ble_packet.specs.Header.{header_size}
use Rattle.ble_sender.specs.Writer.{room_fits}
use Rattle.capture_stream.specs.declared.SenderSlot.{SenderSlot}
use Rattle.capture_stream.specs.Slot.{slot_step}
use Rattle.capture_next.specs.declared.ExpectedHead.{ExpectedHead}
use Rattle.capture_next.specs.declared.NextPacket.{NextPacket}
use Rattle.capture_next.specs.NextPacket.{next_of}

-- a number that a packet must have where a transaction is open
abbrev pub is_named : code.Option ExpectedHead → (ExpectedHead → ℕ) → ℕ → Bool
is_named None number came = true
is_named (Some head) number came = eqb came (number head)

-- a packet has what is expected: id and sequence where a transaction is open, length, extender, ACK flag on the last only, type
abbrev pub held_to : NextPacket → ℕ → Head → Bool → ℕ → ℕ → Bool
held_to n kind head ack start len =
    is_named n.head (λ h. h.id) head.id
    && (is_named n.head (λ h. h.sequence) head.sequence
    && ((eqb len n.len && (eqb start (header_size (eqb kind 0) n.extended) && (not ack || n.last))) && eqb kind n.kind))

-- a packet that was read is the one that is expected, where ACKs may always come
abbrev pub is_expected : ℕ → SenderSlot → Packet → Bool
is_expected room slot (First head ack total start len) = held_to (next_of room slot total) 0 head ack start len
is_expected room slot (Next head ack last start len) = held_to (next_of room slot 0) (cond last 2 1) head ack start len
is_expected room slot (Ack head) = true
is_expected room slot (Nack head) = true

abbrev pub is_taken : Option SenderSlot → Bool
is_taken none = false
is_taken (some slot) = true

abbrev pub ExpectedIsTaken : Type 0
ExpectedIsTaken = (room : ℕ) (slot : SenderSlot) (p : Packet) → room_fits room ≡ true → is_taken (slot_step room slot p) ≡ is_expected room slot p
