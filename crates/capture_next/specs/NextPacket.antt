-- What our writer would write next on a stream, by what is open there.
use Rattle.std.specs.Prelude.{ℕ, true, false, cond, eqb, Option, Some, None, is_none}
use Rattle.ble_sender.specs.Piece.{extended, size_for}
use Rattle.ble_sender.specs.Writer.{type_for, room_fits}
use Rattle.capture_stream.specs.declared.SenderSlot.{SenderSlot}
use Rattle.capture_stream.specs.declared.SenderSlot.TheVariants.{Idle, Open}
use Rattle.capture_next.specs.declared.ExpectedHead.{ExpectedHead}
use Rattle.capture_next.specs.declared.NextPacket.{NextPacket}

-- where `left` bytes are left, a piece of `len`
abbrev pub next_by : Option ExpectedHead → ℕ → ℕ → NextPacket
next_by head left len =
    record {
      head = head;
      kind = type_for (is_none head) (eqb len left);
      len = len;
      extended = extended len;
      last = eqb len left;
    }

-- where nothing is open, the first packet of a message of this total, with any id and sequence
abbrev pub next_in : ℕ → SenderSlot → ℕ → NextPacket
next_in room Idle total = next_by None total (size_for room true total)
next_in room (Open id left sequence) total = next_by (Some (record { id = id; sequence = sequence })) left (size_for room false left)

-- a room out of range has none: all is 0
unfoldable pub next_of : ℕ → SenderSlot → ℕ → NextPacket
next_of room slot total = cond (room_fits room) (next_in room slot total) (next_by None 0 0)
