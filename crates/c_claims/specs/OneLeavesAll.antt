-- The claim that refusal 1 changes nothing, whoever refuses: the rows' length, the numbers of a state, or the library. One row
-- alone is written under it: the answer of a feed, where it has its length, tells 0 used.
use Rattle.std.specs.Prelude.{ℕ, ◌≡◌, List, []}
use Rattle.ble_sender.specs.declared.writer.Sending.{Sending}
use Rattle.ble_slot.specs.declared.Slot.{Slot}
use Rattle.msg_control.specs.declared.envelope.EnvelopePayload.{EnvelopePayload}
use Rattle.msg_device.specs.declared.features.DeviceFeatures.{DeviceFeatures}
use Rattle.reply.specs.declared.Link.{Link}
use Rattle.reply_parts.specs.declared.body.Members.{Members}
use Rattle.c_rows.specs.Called.{Called, called}
use Rattle.c_classic.specs.Calls.{none_used, extractor_open_of, extractor_step_of, extractor_feed_of, frame_write_of, next_sequence_of}
use Rattle.c_classic_parts.specs.Calls.{frame_begin_of, frame_part_of}
use Rattle.c_sending.specs.Calls.{packet_write_of, ack_write_of}
use Rattle.c_packets.specs.Calls.{packet_read_of, capture_packet_of}
use Rattle.c_receiving.specs.Calls.{AcceptCalled, replied, receiver_open_of, receiver_accept_of}
use Rattle.c_judge.specs.Calls.{capture_judge_of, capture_why_of}
use Rattle.c_report.specs.Calls.{ReportCalled, report_called, report_add_of}
use Rattle.c_messages.specs.Calls.{envelope_read_of, envelope_write_of, response_read_of, response_write_of, information_read_of, information_write_of, features_read_of, features_write_of}
use Rattle.c_reply.specs.Calls.{reply_write_of}
use Rattle.c_firmware.specs.Calls.{segment_read_of, segment_write_of, apply_read_of, apply_write_of, field_read_of}
use Rattle.c_outbox.specs.Calls.{outbox_new_of, outbox_append_of, outbox_record_of, outbox_whole_of}
use Rattle.outbox.specs.Format.{Format}
use Rattle.c_outbox_move.specs.Calls.{outbox_move_of}
use Rattle.c_text.specs.Calls.{text_of}

-- if it returns 1, state row, lent bytes and answer row are what they were
abbrev pub Keeps : List ℕ → List ℕ → List ℕ → Called → Type 0
Keeps state lent answer c = c.number ≡ 1 → c ≡ called 1 state lent answer

-- the same of a call with a row of slots and an answer buffer
abbrev pub KeepsRow : List Slot → List ℕ → List ℕ → List ℕ → AcceptCalled → Type 0
KeepsRow slots lent out answer r = r.number ≡ 1 → r ≡ replied 1 slots lent answer out

-- and of one with a report
abbrev pub KeepsReport : List ℕ → List Slot → List ℕ → List ℕ → ReportCalled → Type 0
KeepsReport report slots lent answer r = r.number ≡ 1 → r ≡ report_called 1 report slots lent answer

pub record OneLeavesAll : Type 0 where
  pub extractor-open : (limit : ℕ) (state : List ℕ) → Keeps state [] [] (extractor_open_of limit state)
  pub extractor-step : (b : ℕ) (state lent answer : List ℕ) → Keeps state lent answer (extractor_step_of state lent b answer)
  pub extractor-feed : (bytes state lent answer : List ℕ) → Keeps state lent (none_used answer) (extractor_feed_of state lent bytes answer)
  pub frame-write : (limit sequence : ℕ) (payload out answer : List ℕ) → Keeps [] out answer (frame_write_of limit sequence payload out answer)
  pub frame-begin : (limit sequence total : ℕ) (state : List ℕ) → Keeps state [] [] (frame_begin_of limit sequence total state)
  pub frame-part : (payload state out answer : List ℕ) → Keeps state out answer (frame_part_of state payload out answer)
  pub next-sequence : (sequence : ℕ) (answer : List ℕ) → Keeps [] [] answer (next_sequence_of sequence answer)
  pub packet-write : (limit : ℕ) (how : Sending) (place : ℕ) (message out answer : List ℕ)
      → Keeps [] out answer (packet_write_of limit how message place out answer)
  pub ack-write : (stream id sequence positive : ℕ) (out answer : List ℕ) → Keeps [] out answer (ack_write_of stream id sequence positive out answer)
  pub packet-read : (limit : ℕ) (bytes answer : List ℕ) → Keeps [] [] answer (packet_read_of bytes limit answer)
  pub receiver-open : (limit : ℕ) (state : List ℕ) → Keeps state [] [] (receiver_open_of limit state)
  pub receiver-accept : (sequence : ℕ) (slots : List Slot) (packet state lent out answer : List ℕ)
      → KeepsRow slots lent out answer (receiver_accept_of state slots lent packet sequence out answer)
  pub capture-packet : (place : ℕ) (capture answer : List ℕ) → Keeps [] [] answer (capture_packet_of capture place answer)
  pub capture-judge : (room limit : ℕ) (capture answer : List ℕ) → Keeps [] [] answer (capture_judge_of capture room limit answer)
  pub capture-why : (room limit : ℕ) (capture answer : List ℕ) → Keeps [] [] answer (capture_why_of capture room limit answer)
  pub report-add : (limit : ℕ) (slots : List Slot) (report lent capture answer : List ℕ)
      → KeepsReport report slots lent answer (report_add_of report limit slots lent capture answer)
  pub envelope-read : (message answer : List ℕ) → Keeps [] [] answer (envelope_read_of message answer)
  pub envelope-write : (command : ℕ) (payload : EnvelopePayload) (bytes out answer : List ℕ)
      → Keeps [] out answer (envelope_write_of command payload bytes out answer)
  pub response-read : (message answer : List ℕ) → Keeps [] [] answer (response_read_of message answer)
  pub response-write : (code field : ℕ) (bytes out answer : List ℕ) → Keeps [] out answer (response_write_of code field bytes out answer)
  pub information-read : (message answer : List ℕ) → Keeps [] [] answer (information_read_of message answer)
  pub information-write : (serial_number name device_type transports out answer : List ℕ)
      → Keeps [] out answer (information_write_of serial_number name device_type transports out answer)
  pub features-read : (message answer : List ℕ) → Keeps [] [] answer (features_read_of message answer)
  pub features-write : (features attributes : ℕ) (out answer : List ℕ) → Keeps [] out answer (features_write_of features attributes out answer)
  pub reply-write : (message serial_number name device_type transports : List ℕ) (features : DeviceFeatures) (members : Members) (link : Link)
      (out answer : List ℕ) → Keeps [] out answer (reply_write_of message serial_number name device_type transports features members link out answer)
  pub segment-read : (message answer : List ℕ) → Keeps [] [] answer (segment_read_of message answer)
  pub segment-write : (offset size : ℕ) (name signature out answer : List ℕ)
      → Keeps [] out answer (segment_write_of name offset size signature out answer)
  pub apply-read : (message answer : List ℕ) → Keeps [] [] answer (apply_read_of message answer)
  pub apply-write : (row texts out answer : List ℕ) → Keeps [] out answer (apply_write_of row texts out answer)
  pub field-read : (place : ℕ) (message answer : List ℕ) → Keeps [] [] answer (field_read_of message place answer)
  pub outbox-new : (out answer : List ℕ) → Keeps [] out answer (outbox_new_of out answer)
  pub outbox-append : (used stream : ℕ) (payload buffer answer : List ℕ) → Keeps [] buffer answer (outbox_append_of buffer used stream payload answer)
  pub outbox-record : (place : ℕ) (file answer : List ℕ) → Keeps [] [] answer (outbox_record_of file place answer)
  pub outbox-whole : (file answer : List ℕ) → Keeps [] [] answer (outbox_whole_of file answer)
  pub outbox-move : (wished : Format) (file out answer : List ℕ) → Keeps [] out answer (outbox_move_of wished file out answer)
  pub text : (text answer : List ℕ) → Keeps [] [] answer (text_of text answer)
