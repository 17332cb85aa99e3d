-- What the worked cases ask of the library, and the answers by the definitions that its contracts cite.
use Rattle.std.specs.Prelude.{ℕ, ◌*◌, Bool, cond, List, [], map, ℤ, get_or, take, replicate}
use Rattle.wire.specs.Told.{Told, given, and_then, Written}
use Rattle.classic_frame.specs.Frame.{next_sequence}
use Rattle.classic_writer.specs.Writer as frame
use Rattle.ble_packet.specs.Header.{extender_bit}
use Rattle.ble_packet.specs.Reader.{read_of, len_in}
use Rattle.ble_ack.specs.Acknowledgement.{ack_of}
use Rattle.ble_sender.specs.declared.writer.Sending.{Sending}
use Rattle.ble_sender.specs.declared.writer.Sent.{Sent}
use Rattle.ble_sender.specs.Writer.{written_of}
use Rattle.ble_sender_claims.specs.Calls.{calls_of}
use Rattle.ble_slot.specs.declared.Slot.{Slot}
use Rattle.ble_slot.specs.declared.answer.Accepted.{Accepted}
use Rattle.ble_slot.specs.Slot.{slot_count}
use Rattle.ble_receiver.specs.Receiver.{call, PacketLeft, accept_of}
use Rattle.msg_control.specs.declared.envelope.Envelope.{Envelope}
use Rattle.msg_control.specs.declared.envelope.EnvelopePayload.{EnvelopePayload}
use Rattle.msg_control.specs.Envelope.{envelope_of, envelope_written}
use Rattle.outbox.specs.Format.{format_of}
use Rattle.outbox.specs.Reader as outbox
use Rattle.outbox.specs.Writer.{Stored, append_of}

-- the limit of P1 to P12
abbrev pub limit : ℕ
limit = 4096

-- what a lent buffer holds before, and a message of which only the length counts
abbrev pub zeros : ℕ → List ℕ
zeros n = replicate n 0

-- a call of the library, or its calls for a whole message
pub data Question : Type 0 where
  -- the frame with a sequence byte and a payload
  write_frame : ℕ → List ℕ → Question
  -- .. for a link with another limit
  write_frame_within : ℕ → ℕ → List ℕ → Question
  -- .. into an output that is lent
  write_frame_into : ℕ → ℕ → List ℕ → List ℕ → Question
  -- the sequence byte after one
  next_sequence_byte : ℕ → Question
  -- the packets of a message, place after place
  write_packets : Sending → List ℕ → Question
  -- the same, and each of them read
  read_pieces : Sending → List ℕ → Question
  -- the packet of a message at its first place, for a link with another limit
  write_packet_within : ℕ → Sending → List ℕ → Question
  -- .. at a place, into an output that is lent
  write_packet_into : Sending → List ℕ → ℕ → List ℕ → Question
  -- a packet, given to a receiver with these slots
  accept_packet : List Slot → List ℕ → Question
  -- .. with another limit
  accept_packet_within : ℕ → List Slot → List ℕ → Question
  -- .. with an answer sequence and an answer buffer
  answer_packet : List Slot → List ℕ → ℕ → List ℕ → Question
  -- an ACK, or a NACK where it is not positive, for a stream and an id, with a sequence
  write_acknowledgement : ℕ → ℕ → ℕ → Bool → Question
  -- .. into an output that is lent
  write_acknowledgement_into : ℕ → ℕ → ℕ → Bool → List ℕ → Question
  -- an envelope with a command and a payload that has no bytes of its own
  write_envelope : ℤ → EnvelopePayload → Question
  read_envelope : List ℕ → Question
  -- the record of an outbox at a place
  read_record : List ℕ → ℕ → Question
  -- a record of a stream with a payload, after this many used bytes of a buffer
  append_record : List ℕ → ℕ → ℕ → List ℕ → Question

-- what a packet carries: n bytes, their number in one byte or extended
pub data PieceLength : Type 0 where
  plain extended : ℕ → PieceLength

pub data Answer : Type 0 where
  -- what was written
  bytes : Told (List ℕ) → Answer
  -- what a writer tells, and its output afterwards
  output : Written ℕ → Answer
  sequence_byte : ℕ → Answer
  packets : List (List ℕ) → Answer
  pieces : List (Told PieceLength) → Answer
  -- what is told of a packet that was written
  sent : Told Sent → Answer
  -- .. and the output afterwards
  sent_into : Written Sent → Answer
  -- what is told of a packet, and the slots afterwards
  accepted : Told Accepted → List Slot → Answer
  -- .. and the answer buffer
  answered : Told Accepted → List Slot → List ℕ → Answer
  envelope : Told Envelope → Answer
  reading : outbox.Answer outbox.Item → Answer
  -- what an append tells, and the buffer afterwards
  appended : Stored → Answer

-- the bytes that a writer wrote: the first of the lent output, as many as it told
abbrev pub bytes_of : Written ℕ → Told (List ℕ)
bytes_of w = and_then w.told (λ n. given (take n w.out))

-- what a packet carries, as it is read; the extender stands in its byte 1
abbrev pub piece_length_of : List ℕ → Told PieceLength
piece_length_of p = and_then (read_of limit p) (λ x. given (cond (extender_bit (get_or p 1 0)) (extended (len_in x)) (plain (len_in x))))

-- what a receiver answers, and the slots afterwards
abbrev pub accepted_by : PacketLeft → Answer
accepted_by l = accepted l.told l.slots

abbrev pub answered_by : PacketLeft → Answer
answered_by l = answered l.told l.slots l.out

-- the output lent to a writer: more than any case needs
abbrev room : List ℕ
room = zeros 32

-- the packets of a message: the output is as large as the room
abbrev packets_of : Sending → List ℕ → List (List ℕ)
packets_of w m = calls_of limit w m (zeros w.room)

unfoldable pub answer_to : Question → Answer
answer_to (write_frame sequence payload) = bytes (bytes_of (frame.write_of limit sequence payload room))
answer_to (write_frame_within limit sequence payload) = bytes (bytes_of (frame.write_of limit sequence payload room))
answer_to (write_frame_into limit sequence payload out) = output (frame.write_of limit sequence payload out)
answer_to (next_sequence_byte sequence) = sequence_byte (next_sequence sequence)
answer_to (write_packets w m) = packets (packets_of w m)
answer_to (read_pieces w m) = pieces (map piece_length_of (packets_of w m))
answer_to (write_packet_within limit w m) = sent (written_of limit w m 0 (zeros w.room)).told
answer_to (write_packet_into w m place out) = sent_into (written_of limit w m place out)
answer_to (accept_packet_within limit slots p) = accepted_by (accept_of limit slots (zeros (slot_count * limit)) (call p 0 room))
answer_to (accept_packet slots p) = accepted_by (accept_of limit slots (zeros (slot_count * limit)) (call p 0 room))
answer_to (answer_packet slots p sequence out) = answered_by (accept_of limit slots (zeros (slot_count * limit)) (call p sequence out))
answer_to (write_acknowledgement stream id sequence positive) = bytes (bytes_of (ack_of stream id sequence positive room))
answer_to (write_acknowledgement_into stream id sequence positive out) = output (ack_of stream id sequence positive out)
answer_to (write_envelope command payload) = bytes (bytes_of (envelope_written command payload [] room))
answer_to (read_envelope m) = envelope (envelope_of m)
answer_to (read_record file place) = reading (outbox.read_of (format_of file) file place)
answer_to (append_record buffer used stream payload) = appended (append_of (format_of (take used buffer)) buffer used stream payload)
