-- Why a sender is not lawful: of the packet that decides what came and what was expected; of a capture that goes on what is open.
use Rattle.std.specs.Prelude.{ℕ, cond, List, length, get_or, take, drop, Option, Some, None, unwrap_or, Result, Ok, Err}
use Rattle.wire.specs.Told.{Told, given, refused, and_then}
use Rattle.wire.specs.Stream.{is_stream, stream_of}
use Rattle.ble_packet.specs.Header.{stream_bits, id_bits, sequence_bits, type_bits, ack_bit, extender_bit}
use Rattle.ble_packet.specs.declared.reader.Packet.{Packet}
use Rattle.ble_packet.specs.declared.reader.Packet.TheVariants.{First, Next, Ack, Nack}
use Rattle.ble_packet.specs.Reader.{read_of}
use Rattle.capture_reader.specs.Capture.{width, length_in, ToldAt, told_at}
use Rattle.capture_reader.specs.declared.RefusedAt.{RefusedAt}
use Rattle.capture_stream.specs.declared.SenderSlot.{SenderSlot}
use Rattle.capture_stream.specs.declared.SenderSlot.TheVariants.{Idle, Open}
use Rattle.capture_judge.specs.declared.State.{State}
use Rattle.capture_judge.specs.declared.capture.Refusal.{Refusal}
use Rattle.capture_judge.specs.declared.capture.Judgement.{Judgement}
use Rattle.capture_judge.specs.declared.capture.Judgement.TheVariants.{Going, Stopped as StoppedAt}
use Rattle.capture_judge.specs.Step.{slot_in}
use Rattle.capture_judge.specs.Capture.{number_of}
use Rattle.capture_next.specs.NextPacket.{next_of}
use Rattle.capture_why.specs.declared.ReadNumbers.{ReadNumbers}
use Rattle.capture_why.specs.declared.Came.{Came}
use Rattle.capture_why.specs.declared.Expected.{Expected}
use Rattle.capture_why.specs.declared.Expected.TheVariants.{Nothing, AnyFirst, This}
use Rattle.capture_why.specs.declared.Explained.{Explained}
use Rattle.capture_why.specs.declared.Explained.TheVariants.{Ended, Stopped}

-- ---- what came
abbrev pub numbers_by : Option ℕ → ℕ → ReadNumbers
numbers_by total len = record { total = total; len = len }

-- only a first packet has a total
abbrev pub packet_numbers : Packet → ReadNumbers
packet_numbers (First head ack total start len) = numbers_by (Some total) len
packet_numbers (Next head ack last start len) = numbers_by None len
packet_numbers (Ack head) = numbers_by None 0
packet_numbers (Nack head) = numbers_by None 0

-- the reader's refusal, or what it says
abbrev pub numbers_in : Told Packet → Result ReadNumbers ℕ
numbers_in (refused n) = Err n
numbers_in (given packet) = Ok (packet_numbers packet)

-- by its bytes 0 and 1, and by what was read
abbrev pub came_by : ℕ → ℕ → ℕ → Result ReadNumbers ℕ → Came
came_by size first second r =
    record {
      size = size;
      stream = stream_bits first;
      id = id_bits first;
      sequence = sequence_bits second;
      kind = type_bits second;
      ack = ack_bit second;
      extended = extender_bit second;
      read = r;
    }

-- a byte that a packet does not have counts as 0
unfoldable pub came_of : ℕ → List ℕ → Came
came_of limit p = came_by (length p) (get_or p 0 0) (get_or p 1 0) (numbers_in (read_of limit p))

-- ---- what was expected
-- where nothing is open, the length depends on a total, which only a first packet has
abbrev pub expect_in : ℕ → SenderSlot → Option ℕ → Expected
expect_in room Idle None = AnyFirst
expect_in room Idle (Some total) = This (next_of room Idle total)
expect_in room (Open id left sequence) total = This (next_of room (Open id left sequence) (unwrap_or total 0))

abbrev pub total_read : Result ReadNumbers ℕ → Option ℕ
total_read (Ok numbers) = numbers.total
total_read (Err n) = None

-- a packet of no stream is held to nothing
unfoldable pub expected_of : ℕ → State → Came → Expected
expected_of room s came =
    cond (is_stream came.stream) (expect_in room (slot_in s (stream_of came.stream)) (total_read came.read)) Nothing

-- ---- a capture
-- the packet whose length stands at the front of some bytes
abbrev pub packet_in : List ℕ → List ℕ
packet_in rest = take (length_in rest) (drop width rest)

unfoldable pub stopped_of : ℕ → ℕ → ℕ → State → List ℕ → Explained
stopped_of room limit at s p = Stopped at s (came_of limit p) (expected_of room s (came_of limit p))

-- by what the packets say
abbrev pub explained_in : ℕ → ℕ → List ℕ → Judgement → Explained
explained_in room limit bytes (Going s) = Ended s
explained_in room limit bytes (StoppedAt at s) = stopped_of room limit at s (packet_in (drop at bytes))

unfoldable pub why_of : ℕ → ℕ → List ℕ → ToldAt Judgement → ToldAt Explained
why_of room limit bytes t = and_then t (λ v. given (explained_in room limit bytes v))

-- ---- what the code tells
abbrev pub why_told : Result Explained (RefusedAt Refusal) → ToldAt Explained
why_told = told_at number_of
