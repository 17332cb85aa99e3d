-- The worked cases of docs/FORMATS.md, P1 to P12, and those of No. 2, No. 6, No. 9 and No. 11: one table, and the one statement that each of its rows holds.
use Rattle.std.specs.Prelude.{ℕ, ◌≡◌, Bool, true, false, ℤ, pos, neg_ℤ, take, set, replicate}
use mathlib.Core.List.{List, [], ◌∷◌, ◌++◌, map, Memᴰ}
use Rattle.wire.specs.Bytes.{bit}
use Rattle.wire.specs.declared.stream.Stream.TheVariants.{Control, Alexa}
use Rattle.wire.specs.Told.{given, refused, written}
use Rattle.ble_sender.specs.declared.writer.Sending.{Sending}
use Rattle.ble_slot.specs.declared.Slot.{Slot}
use Rattle.ble_slot.specs.declared.answer.Accepted.TheVariants.{Taken, Finished}
use Rattle.ble_slot.specs.Slot.{idle, idles}
use Rattle.ble_sender.specs.Writer.{last}
use Rattle.msg_control.specs.declared.envelope.Envelope.{Envelope}
use Rattle.msg_control.specs.declared.envelope.Payload.TheVariants as Payload
use Rattle.msg_control.specs.declared.envelope.EnvelopePayload.TheVariants.{Response}
use Rattle.std.specs.Prelude.{None}
use Rattle.proto_reader.specs.Gathered.{no_part}
use Rattle.outbox.specs.Reader as outbox
use Rattle.outbox.specs.Writer.{stored}
use Rattle.worked.specs.Question.{Question, write_frame, write_frame_within, write_frame_into, next_sequence_byte, write_packets, read_pieces, write_packet_within, write_packet_into, accept_packet, answer_packet, accept_packet_within, write_acknowledgement, write_acknowledgement_into, write_envelope, read_envelope, read_record, append_record}
use Rattle.worked.specs.Question.{Answer, bytes, output, sequence_byte, packets, pieces, sent, sent_into, accepted, answered, envelope, reading, appended, plain, extended, zeros, answer_to}

-- a row: what is asked, and what comes back
pub record Case : Type 0 where
  pub question : Question
  pub expected : Answer

abbrev pub case : Question → Answer → Case
case q a = record { question = q; expected = a }

-- room, stream, id, first sequence, ACK wanted
abbrev pub sending : ℕ → ℕ → ℕ → ℕ → Bool → Sending
sending room stream id sequence ack = record { room = room; stream = stream; id = id; sequence = sequence; ack = ack }

-- a message sent at a room: stream, id and sequence 0, no ACK wanted
abbrev pub in_room : ℕ → Sending
in_room room = sending room 0 0 0 false

-- an open slot: id, last sequence, ACK wanted, total, held
abbrev pub open_with : ℕ → ℕ → Bool → ℕ → ℕ → Slot
open_with id sequence wanted total held = record { opened = 1; id = id; sequence = sequence; wanted = bit wanted; total = total; held = held }

-- a control transaction of two bytes of which one is held, with sequence 0 and no ACK wanted
abbrev pub begun : ℕ → Slot
begun id = open_with id 0 false 2 1

-- the first packet of such a transaction
abbrev pub beginning : ℕ → List ℕ
beginning id = id ∷ 0x00 ∷ 0x00 ∷ 0x00 ∷ 0x02 ∷ 0x01 ∷ 0x07 ∷ []

-- control transactions with these ids in the first slots, the other streams idle
abbrev pub opening : List ℕ → List Slot
opening ids = take 12 (map begun ids ++ idles)

-- four control transactions, and the same without the one of id 1
abbrev pub full : List Slot
full = opening (3 ∷ 1 ∷ 2 ∷ 0 ∷ [])

abbrev pub without_one : List Slot
without_one = begun 3 ∷ idle ∷ begun 2 ∷ begun 0 ∷ replicate 8 idle

-- a slot of these numbers, at an index, all others idle
abbrev pub alone : ℕ → ℕ → ℕ → ℕ → ℕ → ℕ → ℕ → List Slot
alone index flag id sequence wanted total held =
    set idles index (record { opened = flag; id = id; sequence = sequence; wanted = wanted; total = total; held = held })

-- a row over which a packet is refused by 1, which leaves it
abbrev pub unlawful : List Slot → Case
unlawful slots = case (accept_packet_within 64 slots (beginning 1)) (accepted (refused 1) slots)

-- a packet that is refused by its own bytes, which leaves the row
abbrev pub unread : ℕ → List ℕ → Case
unread n packet = case (accept_packet_within 64 full packet) (accepted (refused n) full)

-- a control transaction of three bytes, id 0, of which this many are held; the last packet had this sequence
abbrev pub holding : ℕ → ℕ → List Slot
holding held sequence = open_with 0 sequence false 3 held ∷ replicate 11 idle

-- an Alexa transaction of two bytes, id 1, of which one is held; it had sequence 0 and asked for an ACK
abbrev pub asking : List Slot
asking = replicate 8 idle ++ (open_with 1 0 true 2 1 ∷ replicate 3 idle)

-- error codes of Amazon's page
abbrev pub success : ℤ
success = pos 0

abbrev pub unsupported : ℤ
unsupported = pos 3

-- an envelope with a response that has no payload
abbrev pub response_read : ℕ → ℤ → Envelope
response_read command code = record { command = pos command; payload = Payload.Response (record { error_code = code; field = 0; part = no_part }) }

-- an answer buffer of eight bytes
abbrev eight : List ℕ
eight = replicate 8 0xEE

-- a file of 01 of which the first record is cut short, and four bytes behind it
abbrev cut_file : List ℕ
cut_file = 0x01 ∷ 0x00 ∷ 0x02 ∷ 0x06 ∷ replicate 4 0xEE

unfoldable pub cases : List Case
cases =
    -- P1 empty payload, sequence 0
    case (write_frame 0 []) (bytes (given (0xF0 ∷ 0x02 ∷ 0x00 ∷ 0x00 ∷ 0x00 ∷ 0x02 ∷ 0xF1 ∷ [])))
    -- P2 payload F0, sequence 5
    ∷ case (write_frame 5 (0xF0 ∷ [])) (bytes (given (0xF0 ∷ 0x02 ∷ 0x00 ∷ 0x05 ∷ 0xF2 ∷ 0x02 ∷ 0x00 ∷ 0xF2 ∷ 0x00 ∷ 0xF1 ∷ [])))
    -- 17 before 15, 15 for a payload of a byte more than the limit
    ∷ case (write_frame_within 0 0xF0 []) (bytes (refused 17))
    ∷ case (write_frame_within 65536 5 []) (bytes (refused 17))
    ∷ case (write_frame_within 1 5 (0x41 ∷ 0x42 ∷ [])) (bytes (refused 15))
    -- a payload of as many bytes as the limit, and what is behind its frame stays; 14 leaves all
    ∷ case (write_frame_into 1 5 (0x41 ∷ []) (replicate 9 0xEE)) (output (written (given 8) (0xF0 ∷ 0x02 ∷ 0x00 ∷ 0x05 ∷ 0x41 ∷ 0x00 ∷ 0x43 ∷ 0xF1 ∷ 0xEE ∷ [])))
    ∷ case (write_frame_into 1 5 (0x41 ∷ []) (replicate 7 0xEE)) (output (written (refused 14) (replicate 7 0xEE)))
    -- P3 sequence bytes after EF, FF, 00
    ∷ case (next_sequence_byte 0xEF) (sequence_byte 0xF3)
    ∷ case (next_sequence_byte 0xFF) (sequence_byte 0x00)
    ∷ case (next_sequence_byte 0x00) (sequence_byte 0x01)
    -- P4 35 bytes (zeros here), room 20, stream 6, id 1, sequence 0, ACK wanted: each header, and its piece after it
    ∷ case (write_packets (sending 20 6 1 0 true) (zeros 35))
    (packets
    ((0x61 ∷ 0x00 ∷ 0x00 ∷ 0x00 ∷ 0x23 ∷ 0x0E ∷ zeros 14)
    ∷ (0x61 ∷ 0x14 ∷ 0x11 ∷ zeros 17)
    ∷ (0x61 ∷ 0x2A ∷ 0x04 ∷ zeros 4)
    ∷ []))
    -- P5 490 bytes, room 244
    ∷ case (read_pieces (in_room 244) (zeros 490)) (pieces (given (plain 238) ∷ given (plain 241) ∷ given (plain 11) ∷ []))
    -- P6 300 bytes, rooms 262 and 263
    ∷ case (read_pieces (in_room 262) (zeros 300)) (pieces (given (plain 255) ∷ given (plain 45) ∷ []))
    ∷ case (read_pieces (in_room 263) (zeros 300)) (pieces (given (extended 256) ∷ given (plain 44) ∷ []))
    -- 13 before 17, 17 before 15, 15 for a message of a byte more than the limit
    ∷ case (write_packet_within 0 (sending 19 6 1 0 false) []) (sent (refused 13))
    ∷ case (write_packet_within 0 (sending 20 9 1 0 false) []) (sent (refused 17))
    ∷ case (write_packet_within 65536 (sending 20 6 1 0 false) []) (sent (refused 17))
    ∷ case (write_packet_within 1 (sending 20 6 1 0 false) (zeros 2)) (sent (refused 15))
    -- 14: the last piece of one byte wants an output of the room too; what is behind its packet stays
    ∷ case (write_packet_into (sending 20 6 1 0 false) (zeros 15) 14 (replicate 19 0xEE)) (sent_into (written (refused 14) (replicate 19 0xEE)))
    ∷ case (write_packet_into (sending 20 6 1 0 false) (zeros 15) 14 (replicate 20 0xEE))
    (sent_into (written (given (last 4)) (0x61 ∷ 0x18 ∷ 0x01 ∷ 0x00 ∷ replicate 16 0xEE)))
    -- a total of the limit is taken; a state whose limit is 0 is refused by 1
    ∷ case (accept_packet_within 2 idles (0x61 ∷ 0x02 ∷ 0x00 ∷ 0x00 ∷ 0x02 ∷ 0x01 ∷ 0xAA ∷ [])) (accepted (given (Taken 8 Alexa 1 false)) asking)
    ∷ case (accept_packet_within 0 idles (zeros 6)) (accepted (refused 1) idles)
    -- P7 after sequence 15: a continuation of one byte with sequence 0, which is held, and one with sequence 10, which leaves the slot idle
    ∷ case (accept_packet (holding 1 15) (0x00 ∷ 0x04 ∷ 0x01 ∷ 0x00 ∷ [])) (accepted (given (Taken 0 Control 0 false)) (holding 2 0))
    ∷ case (accept_packet (holding 1 15) (0x00 ∷ 0xA4 ∷ 0x01 ∷ 0x00 ∷ [])) (accepted (refused 10) idles)
    -- P8 ACK and NACK for P4, sequence 0
    ∷ case (write_acknowledgement 6 1 0 true) (bytes (given (0x61 ∷ 0x0E ∷ 0x00 ∷ 0x02 ∷ 0x01 ∷ 0x00 ∷ [])))
    ∷ case (write_acknowledgement 6 1 0 false) (bytes (given (0x61 ∷ 0x0C ∷ 0x00 ∷ 0x02 ∷ 0x01 ∷ 0x03 ∷ [])))
    -- .. 14 under six bytes
    ∷ case (write_acknowledgement_into 6 1 0 true (replicate 5 0xEE)) (output (written (refused 14) (replicate 5 0xEE)))
    -- P9 empty transaction, stream, id, sequence 0; and a receiver finishes it at once, its slot idle
    ∷ case (write_packets (sending 20 0 0 0 false) []) (packets (zeros 6 ∷ []))
    ∷ case (accept_packet idles (zeros 6)) (accepted (given (Finished 0 Control 0 0 false false)) idles)
    -- No. 2: the flag on the first packet only; an ACK is wanted
    ∷ case (accept_packet idles (0x61 ∷ 0x02 ∷ 0x00 ∷ 0x00 ∷ 0x02 ∷ 0x01 ∷ 0xAA ∷ [])) (accepted (given (Taken 8 Alexa 1 false)) asking)
    ∷ case (accept_packet asking (0x61 ∷ 0x18 ∷ 0x01 ∷ 0xBB ∷ [])) (accepted (given (Finished 8 Alexa 1 2 true false)) idles)
    -- No. 9: the same two with answer sequence 9 and an answer buffer of 8: the first leaves it, the second writes the ACK first in it
    ∷ case (answer_packet idles (0x61 ∷ 0x02 ∷ 0x00 ∷ 0x00 ∷ 0x02 ∷ 0x01 ∷ 0xAA ∷ []) 9 eight) (answered (given (Taken 8 Alexa 1 false)) asking eight)
    ∷ case (answer_packet asking (0x61 ∷ 0x18 ∷ 0x01 ∷ 0xBB ∷ []) 9 eight)
    (answered (given (Finished 8 Alexa 1 2 true false)) idles (0x61 ∷ 0x9E ∷ 0x00 ∷ 0x02 ∷ 0x01 ∷ 0x00 ∷ 0xEE ∷ 0xEE ∷ []))
    -- 1 (no byte is held) before 15, 15 before 14, and both before the packet's own 2
    ∷ case (answer_packet (holding 0 0) [] 16 []) (answered (refused 1) (holding 0 0) [])
    ∷ case (answer_packet asking [] 16 []) (answered (refused 15) asking [])
    ∷ case (answer_packet asking [] 15 (zeros 5)) (answered (refused 14) asking (zeros 5))
    ∷ case (answer_packet asking [] 15 (zeros 6)) (answered (refused 2) asking (zeros 6))
    -- No. 11, with a limit of 64: ids 3, 1, 2 and 0 take the indexes 0 to 3
    ∷ case (accept_packet_within 64 idles (beginning 3)) (accepted (given (Taken 0 Control 3 false)) (opening (3 ∷ [])))
    ∷ case (accept_packet_within 64 (opening (3 ∷ [])) (beginning 1)) (accepted (given (Taken 1 Control 1 false)) (opening (3 ∷ 1 ∷ [])))
    ∷ case (accept_packet_within 64 (opening (3 ∷ 1 ∷ [])) (beginning 2)) (accepted (given (Taken 2 Control 2 false)) (opening (3 ∷ 1 ∷ 2 ∷ [])))
    ∷ case (accept_packet_within 64 (opening (3 ∷ 1 ∷ 2 ∷ [])) (beginning 0)) (accepted (given (Taken 3 Control 0 false)) full)
    -- id 4 finds no slot, a total of 0 neither; id 2 is open, and replaced at its index
    ∷ case (accept_packet_within 64 full (beginning 4)) (accepted (refused 18) full)
    ∷ case (accept_packet_within 64 full (0x09 ∷ zeros 5)) (accepted (refused 18) full)
    ∷ case (accept_packet_within 64 full (beginning 2)) (accepted (given (Taken 2 Control 2 true)) full)
    -- 11 makes that slot alone idle; 9 where the id is open in another stream only
    ∷ case (accept_packet_within 64 full (0x01 ∷ 0x14 ∷ 0x01 ∷ 0x08 ∷ [])) (accepted (refused 11) without_one)
    ∷ case (accept_packet_within 64 full (0x21 ∷ 0x18 ∷ 0x01 ∷ 0x08 ∷ [])) (accepted (refused 9) full)
    -- 8 before 18
    ∷ case (accept_packet_within 64 full (0x04 ∷ 0x00 ∷ 0x00 ∷ 0x00 ∷ 0x01 ∷ 0x02 ∷ 0x07 ∷ 0x07 ∷ [])) (accepted (refused 8) full)
    -- one that finishes at once, at the lowest idle slot
    ∷ case (accept_packet_within 64 without_one (0x04 ∷ 0x00 ∷ 0x00 ∷ 0x00 ∷ 0x01 ∷ 0x01 ∷ 0x07 ∷ []))
    (accepted (given (Finished 1 Control 4 1 false false)) without_one)
    -- No. 2: a first packet without the flag replaces one that asked, and its wish too: it is held, or finishes at once
    ∷ case (accept_packet asking (0x61 ∷ 0x00 ∷ 0x00 ∷ 0x00 ∷ 0x02 ∷ 0x01 ∷ 0xAA ∷ []))
    (accepted (given (Taken 8 Alexa 1 true)) (replicate 8 idle ++ (begun 1 ∷ replicate 3 idle)))
    ∷ case (accept_packet asking (0x61 ∷ 0x00 ∷ 0x00 ∷ 0x00 ∷ 0x01 ∷ 0x01 ∷ 0xAA ∷ [])) (accepted (given (Finished 8 Alexa 1 1 false true)) idles)
    -- .. one with the flag gets its ACK
    ∷ case (answer_packet asking (0x61 ∷ 0x02 ∷ 0x00 ∷ 0x00 ∷ 0x01 ∷ 0x01 ∷ 0xAA ∷ []) 8 eight)
    (answered (given (Finished 8 Alexa 1 1 true true)) idles (0x61 ∷ 0x8E ∷ 0x00 ∷ 0x02 ∷ 0x01 ∷ 0x00 ∷ 0xEE ∷ 0xEE ∷ []))
    -- .. a flag on a continuation alone is remembered
    ∷ case (accept_packet_within 64 (alone 8 1 1 0 0 3 1) (0x61 ∷ 0x16 ∷ 0x01 ∷ 0xBB ∷ [])) (accepted (given (Taken 8 Alexa 1 false)) (alone 8 1 1 1 1 3 2))
    -- a packet's own refusals: 2 before 3 (a header of 6, 7 and 4 bytes cut), 3 before 12, 12 (too short, with the extender, with the other's code, too long), 4 before 5, 5 before 6, 5 of a packet that follows, 6 before 7, 7 before 9, 8 of a length of two bytes
    ∷ unread 2 (0x71 ∷ 0x00 ∷ 0x00 ∷ 0x00 ∷ 0x01 ∷ [])
    ∷ unread 2 (0x71 ∷ 0x01 ∷ 0x00 ∷ 0x00 ∷ 0x02 ∷ 0x00 ∷ [])
    ∷ unread 2 (0x71 ∷ 0x05 ∷ 0x01 ∷ [])
    ∷ unread 3 (0x71 ∷ 0x0C ∷ 0x00 ∷ [])
    ∷ unread 12 (0x01 ∷ 0x0E ∷ [])
    ∷ unread 12 (0x01 ∷ 0x0F ∷ 0x00 ∷ 0x02 ∷ 0x01 ∷ 0x00 ∷ [])
    ∷ unread 12 (0x01 ∷ 0x0E ∷ 0x00 ∷ 0x02 ∷ 0x01 ∷ 0x03 ∷ [])
    ∷ unread 12 (0x01 ∷ 0x0C ∷ 0x00 ∷ 0x02 ∷ 0x01 ∷ 0x03 ∷ 0x00 ∷ [])
    ∷ unread 4 (0x01 ∷ 0x00 ∷ 0x01 ∷ 0x00 ∷ 0x02 ∷ 0x05 ∷ 0x07 ∷ [])
    ∷ unread 5 (0x01 ∷ 0x00 ∷ 0x00 ∷ 0x00 ∷ 0x41 ∷ 0x02 ∷ 0x07 ∷ [])
    ∷ unread 5 (0x01 ∷ 0x18 ∷ 0x01 ∷ 0x08 ∷ 0x08 ∷ [])
    ∷ unread 6 (0x01 ∷ 0x00 ∷ 0x00 ∷ 0x00 ∷ 0x41 ∷ 0x00 ∷ [])
    ∷ unread 7 (0x09 ∷ 0x18 ∷ 0x00 ∷ [])
    ∷ unread 8 (0x09 ∷ 0x01 ∷ 0x00 ∷ 0x00 ∷ 0x01 ∷ 0x00 ∷ 0x02 ∷ 0xAA ∷ 0xBB ∷ [])
    -- the extender on a length of 1: two bytes, big-endian
    ∷ case (accept_packet_within 64 full (0x01 ∷ 0x19 ∷ 0x00 ∷ 0x01 ∷ 0x08 ∷ [])) (accepted (given (Finished 1 Control 1 2 false false)) without_one)
    -- unlawful rows: one id twice in a stream, eleven slots and thirteen
    ∷ unlawful (opening (3 ∷ 3 ∷ []))
    ∷ unlawful (set (set idles 8 (begun 3)) 11 (begun 3))
    ∷ unlawful (replicate 11 idle)
    ∷ unlawful (replicate 13 idle)
    -- an open slot: id, sequence, wish or total above its range, all held, nothing held; the ends of the ranges are lawful
    ∷ unlawful (alone 11 1 16 0 0 2 1)
    ∷ unlawful (alone 3 1 0 16 0 2 1)
    ∷ unlawful (alone 4 1 0 0 2 2 1)
    ∷ unlawful (alone 7 1 0 0 0 65 1)
    ∷ unlawful (alone 8 1 0 0 0 2 2)
    ∷ unlawful (alone 8 1 0 0 0 0 0)
    ∷ unlawful (alone 10 1 0 0 0 2 0)
    ∷ case (accept_packet_within 64 (alone 11 1 15 15 1 64 63) (0x6F ∷ 0x08 ∷ 0x01 ∷ 0x07 ∷ [])) (accepted (given (Finished 11 Alexa 15 64 true false)) idles)
    -- a flag of 2, and an idle slot whose id, sequence, wish, total or count held is not 0
    ∷ unlawful (alone 0 2 0 0 0 0 0)
    ∷ unlawful (alone 1 0 1 0 0 0 0)
    ∷ unlawful (alone 2 0 0 1 0 0 0)
    ∷ unlawful (alone 5 0 0 0 1 0 0)
    ∷ unlawful (alone 6 0 0 0 0 1 0)
    ∷ unlawful (alone 9 0 0 0 0 0 1)
    -- P10 command 94 with success, 20 with unsupported; and each read back
    ∷ case (write_envelope (pos 94) (Response success None)) (bytes (given (0x08 ∷ 0x5E ∷ 0x4A ∷ 0x00 ∷ [])))
    ∷ case (read_envelope (0x08 ∷ 0x5E ∷ 0x4A ∷ 0x00 ∷ [])) (envelope (given (response_read 94 success)))
    ∷ case (write_envelope (pos 20) (Response unsupported None)) (bytes (given (0x08 ∷ 0x14 ∷ 0x4A ∷ 0x02 ∷ 0x08 ∷ 0x03 ∷ [])))
    ∷ case (read_envelope (0x08 ∷ 0x14 ∷ 0x4A ∷ 0x02 ∷ 0x08 ∷ 0x03 ∷ [])) (envelope (given (response_read 20 unsupported)))
    -- P11 08, nine FF, 01: command -1
    ∷ case (read_envelope (0x08 ∷ (replicate 9 0xFF ++ (0x01 ∷ []))))
    (envelope (given (record { command = neg_ℤ (pos 1); payload = Payload.None })))
    -- P12 one record, then the end; and its first five bytes
    ∷ case (read_record (0x01 ∷ 0x00 ∷ 0x03 ∷ 0x06 ∷ 0x41 ∷ 0x42 ∷ []) 1)
    (reading (outbox.given (outbox.found (record { stream = 6; start = 4; size = 2; next = 6 }))))
    ∷ case (read_record (0x01 ∷ 0x00 ∷ 0x03 ∷ 0x06 ∷ 0x41 ∷ 0x42 ∷ []) 6) (reading (outbox.given outbox.end))
    ∷ case (read_record (take 5 (0x01 ∷ 0x00 ∷ 0x03 ∷ 0x06 ∷ 0x41 ∷ 0x42 ∷ [])) 1) (reading (outbox.refused_at 41 1))
    -- No. 6: a record of version 02; a cut length, a length of 65,537, one of 65,536 with nothing behind it
    ∷ case (read_record (0x02 ∷ 0x00 ∷ 0x00 ∷ 0x00 ∷ 0x03 ∷ 0x06 ∷ 0x41 ∷ 0x42 ∷ []) 1)
    (reading (outbox.given (outbox.found (record { stream = 6; start = 6; size = 2; next = 8 }))))
    ∷ case (read_record (0x02 ∷ 0x00 ∷ 0x00 ∷ 0x00 ∷ []) 1) (reading (outbox.refused_at 41 1))
    ∷ case (read_record (0x02 ∷ 0x00 ∷ 0x01 ∷ 0x00 ∷ 0x01 ∷ []) 1) (reading (outbox.refused_at 42 1))
    ∷ case (read_record (0x02 ∷ 0x00 ∷ 0x01 ∷ 0x00 ∷ 0x00 ∷ []) 1) (reading (outbox.refused_at 41 1))
    -- appending: 1 before 40, 40 before 15 (another version; no byte used), then 15; a record
    ∷ case (append_record (0x03 ∷ []) 2 9 []) (appended (stored (outbox.refused 1) (0x03 ∷ [])))
    ∷ case (append_record (0x03 ∷ []) 1 9 []) (appended (stored (outbox.refused_at 40 0) (0x03 ∷ [])))
    ∷ case (append_record (0x02 ∷ []) 0 9 []) (appended (stored (outbox.refused_at 40 0) (0x02 ∷ [])))
    ∷ case (append_record (0x02 ∷ []) 1 9 []) (appended (stored (outbox.refused 15) (0x02 ∷ [])))
    ∷ case (append_record (0x02 ∷ zeros 8) 1 6 (0x41 ∷ 0x42 ∷ []))
    (appended (stored (outbox.given 8) (0x02 ∷ 0x00 ∷ 0x00 ∷ 0x00 ∷ 0x03 ∷ 0x06 ∷ 0x41 ∷ 0x42 ∷ 0x00 ∷ [])))
    -- 15: a place beyond the bytes; 42: a length of 0; 43
    ∷ case (read_record (0x02 ∷ []) 2) (reading (outbox.refused 15))
    ∷ case (read_record (0x01 ∷ 0x00 ∷ 0x00 ∷ []) 1) (reading (outbox.refused_at 42 1))
    ∷ case (read_record (0x01 ∷ 0x00 ∷ 0x01 ∷ 0x01 ∷ []) 1) (reading (outbox.refused_at 43 1))
    -- appending after used bytes that are not whole: 14 first, then 41, 42, 43; each leaves all
    ∷ case (append_record cut_file 4 6 []) (appended (stored (outbox.refused_at 41 1) cut_file))
    ∷ case (append_record (take 6 cut_file) 4 6 []) (appended (stored (outbox.refused 14) (take 6 cut_file)))
    ∷ case (append_record (0x01 ∷ 0x00 ∷ 0x00 ∷ replicate 4 0xEE) 3 6 []) (appended (stored (outbox.refused_at 42 1) (0x01 ∷ 0x00 ∷ 0x00 ∷ replicate 4 0xEE)))
    ∷ case (append_record (0x01 ∷ 0x00 ∷ 0x01 ∷ 0x01 ∷ replicate 4 0xEE) 4 6 []) (appended (stored (outbox.refused_at 43 1) (0x01 ∷ 0x00 ∷ 0x01 ∷ 0x01 ∷ replicate 4 0xEE)))
    ∷ []

-- every row of the table holds
abbrev pub WorkedCases : Type 0
WorkedCases = (c : Case) → Memᴰ c cases → answer_to c.question ≡ c.expected
